-- Within each set there is a greatest frozen set, and it can be told whether a set is as in the array.
use Rattle.std.proofs.Common.{◌≡◌, ℕ, zero, suc, ◌≤◌, ◌⊎◌, inl, inr, true, false, List, length, refl, sym, ap, ◌∙◌, arith}
use Rattle.std.proofs.lemmas.Bool.{both_ways, and_parts}
use Rattle.std.specs.Prelude.{Bool}
use Rattle.board_base.specs.Board.{Places, array_of, is_in}
use Rattle.query_base.specs.Asked.{Asked}
use Rattle.play_rules.specs.Reach.{IsWithin}
use Rattle.general_lemmas.proofs.Rounds.{count, count-le, fewer}
use Rattle.cage_rules.specs.Frozen.{IsAsArray, IsFrozen}
use Rattle.cage_rules.specs.SetSteps.{both}
use Rattle.cage_rules.specs.Tests.{kept, squares_alike, ways_of}
use Rattle.cage_rules.proofs.Greatest.{Shrunk, alike-answer, fixed-frozen, kept-within, shrunk-more, shrunk-start}
use Rattle.cage_rules.proofs.Loose.{length-kept}
use Rattle.cage_rules.proofs.SetAlgebra.{is_in-both, length-both}
use Rattle.cage_rules.proofs.Tested.{member-inside}

-- the greatest frozen set within this one
pub record GreatestWithin (q : Asked) (start set : List Bool) : Type 0 where
  pub size : length set ≡ 64
  pub frozen : IsFrozen q set
  pub within : IsWithin set start
  pub holds : (inner : List Bool) → IsFrozen q inner → IsWithin inner start → IsWithin inner set

shrinks : (n : ℕ) (q : Asked) (start set : List Bool) → Shrunk q start set → count set ≤ n → (found : List Bool) × GreatestWithin q start found
shrinks zero q start set h few = elim (fewer (kept (ways_of q) set) set (length-kept q set ∙ sym h.size) (kept-within q set)) [
  | inl fixed ↦ (set, record { size = h.size; frozen = fixed-frozen q set fixed; within = h.within; holds = h.holds })
  | inr less ↦ absurd (omega arith)
]
shrinks (suc n) q start set h few = elim (fewer (kept (ways_of q) set) set (length-kept q set ∙ sym h.size) (kept-within q set)) [
  | inl fixed ↦ (set, record { size = h.size; frozen = fixed-frozen q set fixed; within = h.within; holds = h.holds })
  | inr less ↦ shrinks n q start (kept (ways_of q) set) (shrunk-more q start set (kept (ways_of q) set) refl h) (omega arith)
]

pub greatest-within : (q : Asked) (start : List Bool) → length start ≡ 64 → (found : List Bool) × GreatestWithin q start found
greatest-within q start size = shrinks 64 q start start (shrunk-start q start size) (let few = count-le start in omega arith)

-- a set is as in the array at these odds, or it isn't
pub alike-or-not : (o : List Bool) (board : Places) (set : List Bool) → length set ≡ 64 → IsAsArray o board set ⊎ (IsAsArray o board set → ⊥)
alike-or-not o board set size =
    let alike : List Bool = squares_alike board (array_of o) in
    let within : IsWithin (both set alike) set = λ s member.
    (and_parts (is_in set s) (is_in alike s) (sym (is_in-both set alike s (member-inside (both set alike) s (length-both set alike) member)) ∙ member)).0 in
    elim (fewer (both set alike) set (length-both set alike ∙ sym size) within) [
      | inl same ↦ inl ((alike-answer o true board set (λ _. same, λ _. refl) size).0 refl)
      | inr less ↦ inr (λ h. both_ways false refl ((alike-answer o false board set (λ f. absurd (both_ways false refl f), λ e. absurd (let same = ap count e in omega arith)) size).1 h))
    ]
