-- What the searches for a proof of a claim come to.
use Rattle.std.specs.Prelude.{ℕ, ◌≡◌, ◌≤◌, ◌<◌, ◌⊎◌, Bool, true, false, List, []}
use Rattle.board_base.specs.declared.moves.Move.{Move}
use Rattle.query_base.specs.Asked.{Asked}
use Rattle.query_base.specs.Reach.{Contradicts, Holds}
use Rattle.query_base.specs.Targets.{target}
use Rattle.query_base.specs.declared.claims.Claim.{Claim}
use Rattle.price_search.specs.FlatPrices.{FlatPricesSupport}
use Rattle.retro_search.specs.Costs.{IsCost}
use Rattle.retro_search.specs.Outcomes.{HasProof}
use Rattle.retro_search.specs.Plain.{HasPlainSketch}
use Rattle.retro_search.specs.Refutable.{IsRefutable}
use Rattle.retro_search.specs.SearchSizes.{IsLargeSearch}
use Rattle.retro_search.specs.Unsettled.{WhereRefutable}
use Rattle.retro_search.specs.declared.searchers.Outcome.{Outcome}
use Rattle.retro_search.specs.declared.searchers.Outcome.TheVariants as outcome
use Rattle.claim_findings.specs.declared.findings.Finding.{Finding}
use Rattle.claim_findings.specs.declared.findings.Finding.TheVariants.{Proved, Countered, Open, Spent}

-- some tree of this height, which is no higher than the depth, proves the claim's target; so the claim holds of every game
pub record IsProvedAt (q : Asked) (claim : Claim) (depth height : ℕ) : Type 0 where
  pub proof : HasProof (target q claim) height depth
  pub holds : Holds claim q

-- flat prices support the query, or one node of a sketch refutes it without exact files, prices and marks
abbrev pub HasPlainReason : Asked → Type 0
HasPlainReason q = FlatPricesSupport q ⊎ HasPlainSketch q

-- where any query may be visited, the claim's target has no plain reason
abbrev pub LacksPlainReasons : Asked → Claim → ℕ → Type 0
LacksPlainReasons q claim nodes = 1 ≤ nodes → HasPlainReason (target q claim) → ⊥

-- What one search to a depth comes to: it proves the claim; or rule lines don't refute its target at the depth; or the whole search to
-- the depth is larger than the nodes, and wherever rule lines refute the target, there or at a lower depth, its cost is above them. What
-- isn't proved lacks plain reasons.
abbrev pub IsOutcome : Asked → Claim → ℕ → ℕ → Outcome → Type 0
IsOutcome q claim depth nodes (outcome.Refuted height) = IsProvedAt q claim depth height
IsOutcome q claim depth nodes outcome.Open = (IsRefutable (target q claim) depth [] → ⊥) × LacksPlainReasons q claim nodes
IsOutcome q claim depth nodes outcome.Spent =
    WhereRefutable (target q claim) depth (λ n. nodes < n) × LacksPlainReasons q claim nodes × IsLargeSearch (target q claim) depth nodes

-- the search refuted the target
abbrev pub is_refuted : Outcome → Bool
is_refuted (outcome.Refuted height) = true
is_refuted outcome.Open = false
is_refuted outcome.Spent = false

-- wherever rule lines refute the claim's target at a depth below this one, its cost there is above the nodes
abbrev pub IsUnprovedBelow : Asked → Claim → ℕ → ℕ → Type 0
IsUnprovedBelow q claim nodes depth =
    (k n : ℕ) → k < depth → IsRefutable (target q claim) k [] → IsCost (target q claim) k [] n → nodes < n

-- The claim is proved at this depth, which is at most the greatest, and the least at which the search proves it: 0 if its target
-- has a plain reason.
pub record IsProof (q : Asked) (claim : Claim) (most nodes depth : ℕ) : Type 0 where
  pub proved : IsProvedAt q claim most depth
  pub least : IsUnprovedBelow q claim nodes depth
  pub plain : 1 ≤ nodes → HasPlainReason (target q claim) → depth ≡ 0

-- some game contradicts the claim
abbrev pub IsContradicted : Claim → Asked → Type 0
IsContradicted claim q = (g : List Move) × Contradicts g claim q

-- What was found of a claim about a query. Where it is countered, some game contradicts it. Where it is open, rule lines don't refute its
-- target at the greatest depth nor at any lower one; where the search was spent, the whole search is larger than the nodes, and the
-- target's cost is above them wherever rule lines refute it. What isn't proved lacks plain reasons.
abbrev pub IsFound : Asked → Claim → ℕ → ℕ → Finding → Type 0
IsFound q claim most nodes (Proved depth) = IsProof q claim most nodes depth
IsFound q claim most nodes Countered = IsContradicted claim q
IsFound q claim most nodes Open = ((k : ℕ) → k ≤ most → IsRefutable (target q claim) k [] → ⊥) × LacksPlainReasons q claim nodes
IsFound q claim most nodes Spent =
    WhereRefutable (target q claim) most (λ n. nodes < n) × LacksPlainReasons q claim nodes × IsLargeSearch (target q claim) most nodes

-- a proof was found
abbrev pub is_proved : Finding → Bool
is_proved (Proved depth) = true
is_proved Countered = false
is_proved Open = false
is_proved Spent = false
