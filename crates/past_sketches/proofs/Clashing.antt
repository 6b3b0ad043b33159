-- A sketch that fits a moment doesn't clash: each man stands somewhere, and no two on one square.
use Rattle.std.proofs.Common.{◌≡◌, ◌≢◌, suc, inl, inr, Bool, true, false, ◌&&◌, not, List, [], ◌∷◌, refl, sym, ◌∙◌, arith}
use Rattle.std.proofs.lemmas.Bool.{and_parts, or_cases, both_ways, not-true}
use Rattle.std.proofs.lemmas.Option.{same_Some}
use Rattle.std.specs.List.{list_any}
use Rattle.board_base.specs.Board.{is_in}
use Rattle.board_base.specs.Game.{IsGame, board_after}
use Rattle.board_base.specs.declared.moves.Move.{Move}
use Rattle.past_sketches.specs.Clashes.{do_two, is_clash, is_nowhere}
use Rattle.past_sketches.specs.Figures.{Figure, Sketch, is_fixed_on}
use Rattle.past_sketches.specs.Fits.{Fits}
use Rattle.past_sketches.proofs.Sketches.{AnyFigure, any-figure}
use Rattle.past_sketches.proofs.Wider.{man-inside}
use Rattle.past_sketches.proofs.Trimmed.{fixed-label}
use Rattle.general_lemmas.proofs.Ranges.{all_in_range, any-one}
use Rattle.play_rules.proofs.Kings.{length-after}

-- a figure without squares
nowhere-none : (o : List Bool) (p : List Move) (S : Sketch) → IsGame o p → Fits o p S → list_any is_nowhere S ≡ true → ⊥
nowhere-none o p S game fits h =
    let by = any-figure S is_nowhere h in
    let his = fits.stand by.number by.figure by.found in
    let small = man-inside (board_after o p) his.0 his.1 (length-after o p game) his.2.there in
    both_ways _ (not-true _ (all_in_range (λ s. not (is_in by.figure.squares s)) 0 64 his.0 by.passes (omega arith) (omega arith))) his.2.square

-- two figures with different numbers
record TwoFigures (S : Sketch) (p : Figure → Bool) : Type 0 where
  one : AnyFigure S p
  other : AnyFigure S p
  apart : one.number ≢ other.number

two-figures : (S : Sketch) (p : Figure → Bool) → do_two p S ≡ true → TwoFigures S p
two-figures [] p h = absurd (both_ways false refl h)
two-figures (f ∷ S) p h = elim (or_cases (p f && list_any p S) (do_two p S) h) [
  | inl first ↦
      let parts = and_parts (p f) (list_any p S) first in
      let later = any-figure S p parts.1 in
      record { one = record { number = 0; figure = f; found = refl; passes = parts.0 }; other = record { number = suc later.number; figure = later.figure; found = later.found; passes = later.passes }; apart = λ e. cc }
  | inr later ↦
      let two = two-figures S p later in
      record {
        one = record { number = suc two.one.number; figure = two.one.figure; found = two.one.found; passes = two.one.passes };
        other = record { number = suc two.other.number; figure = two.other.figure; found = two.other.found; passes = two.other.passes };
        apart = λ e. two.apart (let same : two.one.number ≡ two.other.number = omega (arith, e) in same);
      }
]

pub clash-none : (o : List Bool) (p : List Move) (S : Sketch) → IsGame o p → Fits o p S → is_clash S ≡ true → ⊥
unfolding is_clash
clash-none o p S game fits h = elim (or_cases (list_any is_nowhere S) _ h) [
  | inl nowhere ↦ nowhere-none o p S game fits nowhere
  | inr on_one ↦
      let q = any-one (λ s. do_two (is_fixed_on s) S) 0 64 on_one in
      let two = two-figures S (is_fixed_on q.number) q.passes in
      two.apart (fits.apart two.one.number two.other.number two.one.figure two.other.figure two.one.found two.other.found
      (same_Some _ _ (sym (fixed-label o p S q.number game fits two.one) ∙ fixed-label o p S q.number game fits two.other)))
]
