-- What settles a claim, by how it was found.
use Rattle.std.proofs.Common.{ℕ, ◌≡◌, ◌≤◌, ◌⊎◌, inl, inr, List, [], length, refl, subst, arith}
use Rattle.std.specs.Prelude.{IfOk, Result, Ok, Err}
use Rattle.board_base.specs.declared.moves.Move.{Move}
use Rattle.query_base.specs.Asked.{Asked}
use Rattle.query_base.specs.Reach.{Contradicts}
use Rattle.query_base.specs.Targets.{target}
use Rattle.query_base.specs.declared.claims.Claim.{Claim}
use Rattle.price_search.specs.FlatPrices.{FlatPricesSupport, flat_prices}
use Rattle.balance_rule.proofs.Sound.{balance-unreached}
use Rattle.retro_search.proofs.Contradicted.{contradiction-reaches}
use Rattle.retro_search.proofs.Unsketched.{plain-unreached}
use Rattle.retro_search.specs.Plain.{HasPlainSketch}
use Rattle.retro_search.specs.Answers.{IfSpentAt, IfUndecided, IsAnswer, IsProved, IsUndecided}
use Rattle.retro_search.specs.Lines.{EndsAtArray}
use Rattle.retro_search.specs.Lone.{IsDear}
use Rattle.retro_search.specs.Unsettled.{WhereRefutable}
use Rattle.retro_search.specs.declared.answers.Found.{Found}
use Rattle.retro_search.specs.declared.answers.Found.TheVariants as found
use Rattle.claim_search.specs.Settlements.{IsCounterable, IsCountered, IsSettlement}
use Rattle.retro_search.proofs.Lines.OneLine.{line_one}
use Rattle.claim_search.proofs.Unreached.{refutable-unreached}

-- what a game contradicts has a target that rule lines refute at no depth
nowhere : (game : List Move) (claim : Claim) (q : Asked) (depth : ℕ) (P : ℕ → Type 0) → Contradicts game claim q → WhereRefutable (target q claim) depth P
nowhere game claim q depth P against k n low refutable cost = absurd (refutable-unreached k (target q claim) refutable game (contradiction-reaches game claim q against))

-- and that flat prices don't support
unpriced : (game : List Move) (claim : Claim) (q : Asked) → Contradicts game claim q → FlatPricesSupport (target q claim) → ⊥
unpriced game claim q against e = balance-unreached (target q claim) e.set (flat_prices e.payers) e.supports game (contradiction-reaches game claim q against)

-- a game against the claim settles it
pub by_game : (depth nodes : ℕ) (claim : Claim) (q : Asked) (game : List Move) → Contradicts game claim q → length game ≤ nodes → IsSettlement depth nodes claim q (found.Countered game)
by_game depth nodes claim q game against short = record {
  proved = tt;
  holds = tt;
  written = λ well. tt;
  short = tt;
  countered = against;
  short_game = short;
  undecided = tt;
  short_line = tt;
  unpriced = λ few. tt;
  visited = tt;
  spent = tt;
  large = tt;
  never_weaker = nowhere game claim q depth _ against;
  priced = λ some e. unpriced game claim q against e;
}

-- a claim that is proved is contradicted by no game, so none is come to
pub decided : (depth nodes : ℕ) (claim : Claim) (q : Asked) (answer : Found) → IsSettlement depth nodes claim q answer → IsProved answer ⊎ IsCountered answer → IsCounterable depth nodes claim q → IsCountered answer
decided depth nodes claim q (found.Proved cert) is which can = absurd (is.holds can.game can.counter.contradicts)
decided depth nodes claim q (found.Undecided line) is which can = absurd (elim which [ inl none ↦ none | inr none ↦ none ])
decided depth nodes claim q (found.Countered game) is which can = tt
decided depth nodes claim q (found.Spent n) is which can = absurd (elim which [ inl none ↦ none | inr none ↦ none ])

-- a search by rule lines that comes to no game shows that the first open line ends elsewhere, or costs more
pub uncounterable : (depth nodes : ℕ) (claim : Claim) (q : Asked) (answer : Found) → IsAnswer depth nodes claim q answer → IfUndecided answer (λ line. IsUndecided line (target q claim) depth) → IfSpentAt answer (λ n. IsDear depth nodes claim q) → ((game : List Move) → answer ≡ found.Countered game → ⊥) → IsCounterable depth nodes claim q → ⊥
uncounterable depth nodes claim q (found.Proved cert) is undecided spent none can = is.holds can.game can.counter.contradicts
uncounterable depth nodes claim q (found.Undecided line) is undecided spent none can =
    let same : can.counter.line ≡ line = line_one depth (target q claim) [] can.counter.line line can.counter.open_line.first undecided.open_line.first in
    undecided.elsewhere (subst (EndsAtArray (target q claim)) same can.counter.at_array)
uncounterable depth nodes claim q (found.Countered game) is undecided spent none can = none game refl
uncounterable depth nodes claim q (found.Spent n) is undecided spent none can = let dear = spent.cost can.cost can.is_cost in let cheap = can.cheap in omega arith

-- a game contradicts no claim whose target one node of a sketch refutes
pub unsketched : (game : List Move) (claim : Claim) (q : Asked) → Contradicts game claim q → HasPlainSketch (target q claim) → ⊥
unsketched game claim q against has = plain-unreached (target q claim) has game (contradiction-reaches game claim q against)

-- what follows from what isn't so is so of each answer
pub if-never : {A E : Type 0} (r : Result A E) (H : Type 0) (P : A → Type 0) → (H → ⊥) → IfOk r (λ x. H → P x)
if-never {A} {E} (Ok x) H P never = λ h. absurd (never h)
if-never {A} {E} (Err e) H P never = tt
