-- What settles a claim.
use Rattle.std.specs.Prelude.{ℕ, ◌≡◌, ◌<◌, ◌≤◌, IsTrue, List, [], length}
use Rattle.board_base.specs.declared.moves.Move.{Move}
use Rattle.query_base.specs.Asked.{Asked}
use Rattle.query_base.specs.Reach.{Contradicts, Holds}
use Rattle.query_base.specs.Targets.{target}
use Rattle.query_base.specs.declared.claims.Claim.{Claim}
use Rattle.price_search.specs.FlatPrices.{FlatPricesSupport}
use Rattle.cert_text.specs.Certificate.{HasText}
use Rattle.cert_text.specs.ClaimLines.{promotes_well}
use Rattle.cert_text.specs.SeenCert.{cert_of}
use Rattle.retro_search.specs.Answers.{IfCountered, IfProved, IfSpentAt, IfUndecided, IsCounter, IsProofOf, IsProved, IsShort}
use Rattle.retro_search.specs.Costs.{IsCost}
use Rattle.retro_search.specs.SearchSizes.{IsLargeSearch}
use Rattle.retro_search.specs.Unsettled.{IsUnpriced, StaysUnsettled, WhereRefutable}
use Rattle.retro_search.specs.declared.answers.Found.{Found}
use Rattle.retro_search.specs.declared.answers.Found.TheVariants as found

-- What each answer says of the claim about the query. A certificate proves the claim, so that no game contradicts it, goes back no further
-- than the depth, and has a text where the claim has one, which a check takes. A game contradicts the claim, and has at most as many moves
-- as the nodes, however low the depth is. A line of fewer unmoves than the nodes is open at the depth, and ends elsewhere than at the
-- array; with at most 250,000 nodes, flat prices support no query on it. The nodes are spent only if the whole search of the target is
-- larger; and if rule lines refute it, it costs more. Where rule lines refute the target at a cost within the nodes, or flat prices
-- support it, the answer is a certificate.
pub record IsSettlement (depth nodes : ℕ) (claim : Claim) (q : Asked) (answer : Found) : Type 0 where
  pub proved : IfProved answer (λ cert. IsProofOf depth (cert_of cert) claim q)
  pub holds : IfProved answer (λ cert. Holds claim q)
  pub written : IsTrue (promotes_well claim) → IfProved answer (λ cert. HasText (cert_of cert))
  pub short : IfProved answer (λ cert. IsShort (cert_of cert))
  pub countered : IfCountered answer (λ game. Contradicts game claim q)
  pub short_game : IfCountered answer (λ game. length game ≤ nodes)
  pub undecided : IfUndecided answer (λ line. StaysUnsettled line (target q claim) depth)
  pub short_line : IfUndecided answer (λ line. length line < nodes)
  pub unpriced : nodes ≤ 250000 → IfUndecided answer (IsUnpriced (target q claim))
  pub visited : IfSpentAt answer (λ visited. visited ≡ nodes)
  pub spent : IfSpentAt answer (λ visited. WhereRefutable (target q claim) depth (λ n. nodes < n))
  pub large : IfSpentAt answer (λ visited. IsLargeSearch (target q claim) depth nodes)
  pub never_weaker : WhereRefutable (target q claim) depth (λ n. n ≤ nodes → IsProved answer)
  pub priced : 1 ≤ nodes → FlatPricesSupport (target q claim) → IsProved answer

-- The first open line of the claim's target ends at the array, and the target's cost is at most the nodes: a search by rule lines alone
-- comes to that game.
pub record IsCounterable (depth nodes : ℕ) (claim : Claim) (q : Asked) : Type 0 where
  pub game : List Move
  pub counter : IsCounter game claim q depth
  pub cost : ℕ
  pub is_cost : IsCost (target q claim) depth [] cost
  pub cheap : cost ≤ nodes

-- the answer is a game
abbrev pub IsCountered : Found → Type 0
IsCountered (found.Proved cert) = ⊥
IsCountered (found.Undecided line) = ⊥
IsCountered (found.Countered game) = Unit {0}
IsCountered (found.Spent n) = ⊥
