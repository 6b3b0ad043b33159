-- The test of each square for pawns on rank 1 or 8 is the law that there are none.
use Rattle.std.proofs.Common.{◌≡◌, ℕ, zero, suc, ◌+◌, Bool, true, ◌&&◌, not, inl, inr, refl, ap, sym, ◌∙◌, arith}
use Rattle.std.proofs.lemmas.Bool.{and_from, and_right, not_from_false, not-true, cases_Bool, both_ways, false_from_ne_true}
use Rattle.std.specs.Prelude.{◌↔◌, IsTrue}
use Rattle.std.specs.List.{list_all, range_with_len}
use Rattle.general_lemmas.proofs.Ranges.{all_in_range}
use Rattle.board_base.specs.Board.{Places, at, is_a}
use Rattle.board_base.specs.declared.men.Kind.TheVariants.{Pawn}
use Rattle.play_rules.proofs.Ends.{end-inside}
use Rattle.play_rules.specs.Laws.{HasNoPawnOnEnds, has_no_pawn_on_ends, is_end}

all-range : (p : ℕ → Bool) → ((s : ℕ) → p s ≡ true) → (k n : ℕ) → list_all p (range_with_len k n) ≡ true
all-range p h k zero = refl
all-range p h k (suc n) = and_from _ _ (h k) (all-range p h (k + 1) n)

pub no_pawns : (board : Places) → HasNoPawnOnEnds board → has_no_pawn_on_ends board ≡ true
unfolding has_no_pawn_on_ends
no_pawns board ends = all-range (λ s. not (is_end s && is_a Pawn (at board s))) (λ s. elim (cases_Bool (is_end s)) [
  | inl end ↦ not_from_false _ (and_right _ _ (ends s end))
  | inr inner ↦ ap (λ (b : Bool). not (b && is_a Pawn (at board s))) inner
]) 0 64

no_pawn-here : (board : Places) → has_no_pawn_on_ends board ≡ true → HasNoPawnOnEnds board
unfolding has_no_pawn_on_ends
no_pawn-here board all s end =
    let here : not (is_end s && is_a Pawn (at board s)) ≡ true = all_in_range (λ t. not (is_end t && is_a Pawn (at board t))) 0 64 s all (omega arith) (end-inside s end) in
    false_from_ne_true _ (λ pawn. both_ways _ (not-true _ here) (and_from _ _ end pawn))

-- an answer that is the test says whether the law holds
pub answers_law : (board : Places) (b : Bool) → b ≡ has_no_pawn_on_ends board → IsTrue b ↔ HasNoPawnOnEnds board
answers_law board b is = (λ yes. no_pawn-here board (sym is ∙ yes), λ ends. is ∙ no_pawns board ends)
