-- Clashes and checks, figure by figure.
use Rattle.std.proofs.Common.{◌≡◌, ℕ, zero, suc, ◌+◌, ◌<◌, ◌≤◌, ◌==◌, inl, inr, Bool, true, false, ◌&&◌, ◌||◌, List, [], ◌∷◌, length, get_or, drop, set, refl, ap, sym, ◌∙◌, arith}
use Rattle.std.specs.List.{list_any}
use Rattle.std.proofs.lemmas.Bool.{both_ways, cases_eq, false_from_ne_true, ne_eqb}
use Rattle.std.proofs.lemmas.List.{drop_more, get_or-set_same, get_or-set_other, length-set}
use Rattle.general_lemmas.proofs.Ranges.{any-found}
use Rattle.board_base.specs.Board.{is_in}
use Rattle.board_base.specs.Squares.{number_of, squares_of}
use Rattle.board_base.specs.SquareNumbers.{length-squares_of}
use Rattle.figures.proofs.Filling.{none-in-zero}
use Rattle.figures.proofs.SetAlgebra.{none-bits}
use Rattle.figures.proofs.Tested.{any-told}
use Rattle.figures.specs.Clashes.{do_two, is_clash}
use Rattle.figures.specs.Figures.{Figure, Sketch, is_fixed_on}
use Rattle.figures.proofs.Singles.{fixed-only, fixed-same}
use Rattle.sketch_sets.specs.Clashes.{has_no_square, has_two, is_twice}

pub nowhere-bits : (f : Figure) (n : ℕ) → n ≡ number_of f.squares → squares_of n ≡ f.squares → (n == 0) ≡ has_no_square f
unfolding has_no_square
nowhere-bits f n number squares = none-bits f.squares n number squares

-- of the figures from the i-th on
pub record Seen (figures : List Figure) (i : ℕ) (seen : List Bool) : Type 0 where
  pub size : length seen ≡ 64
  pub each : (s : ℕ) → s < 64 → ((is_in seen s && list_any (is_fixed_on s) (drop i figures)) || do_two (is_fixed_on s) (drop i figures)) ≡ do_two (is_fixed_on s) figures

pub seen-start : (figures : List Figure) (seen : List Bool) → seen ≡ squares_of 0 → Seen figures 0 seen
seen-start figures seen e = record {
  size = ap length e ∙ length-squares_of 0;
  each = λ s low. ap (λ (b : Bool). (b && list_any (is_fixed_on s) figures) || do_two (is_fixed_on s) figures) (ap (λ (l : List Bool). is_in l s) e ∙ none-in-zero s);
}

two-more : (a p q r : Bool) → p ≡ false → ((a && (p || q)) || ((p && q) || r)) ≡ ((a && q) || r)
two-more a p q r none = ap (λ (x : Bool). (a && (x || q)) || ((x && q) || r)) none

two-here : (a p q r : Bool) → a ≡ false → p ≡ true → ((a && (p || q)) || ((p && q) || r)) ≡ (q || r)
two-here a p q r none here = ap (λ (x : Bool). (x && (p || q)) || ((p && q) || r)) none ∙ ap (λ (x : Bool). (x && q) || r) here

two-twice : (a p q r : Bool) → a ≡ true → p ≡ true → ((a && (p || q)) || ((p && q) || r)) ≡ true
two-twice a p q r one here = ap (λ (x : Bool). (x && (p || q)) || ((p && q) || r)) one ∙ ap (λ (x : Bool). (x || q) || ((x && q) || r)) here

module _ (figures : List Figure) (i : ℕ) (f : Figure) (low : i < length figures) (there : get_or figures i f ≡ f) where
  first : drop i figures ≡ f ∷ drop (i + 1) figures
  first = drop_more figures i f low ∙ ap (λ (x : Figure). x ∷ drop (i + 1) figures) there

  opened : (s : ℕ) (a : Bool) → ((a && list_any (is_fixed_on s) (drop i figures)) || do_two (is_fixed_on s) (drop i figures)) ≡ ((a && (is_fixed_on s f || list_any (is_fixed_on s) (drop (i + 1) figures))) || ((is_fixed_on s f && list_any (is_fixed_on s) (drop (i + 1) figures)) || do_two (is_fixed_on s) (drop (i + 1) figures)))
  opened s a = ap (λ (l : List Figure). (a && list_any (is_fixed_on s) l) || do_two (is_fixed_on s) l) first

  pub seen-without : (seen : List Bool) → ((s : ℕ) → is_fixed_on s f ≡ false) → Seen figures i seen → Seen figures (i + 1) seen
  seen-without seen none before = record {
    size = before.size;
    each = λ s on. sym (two-more (is_in seen s) (is_fixed_on s f) (list_any (is_fixed_on s) (drop (i + 1) figures)) (do_two (is_fixed_on s) (drop (i + 1) figures)) (none s)) ∙ sym (opened s (is_in seen s)) ∙ before.each s on;
  }

  pub seen-with : (seen : List Bool) (t : ℕ) → length f.squares ≡ 64 → is_fixed_on t f ≡ true → is_in seen t ≡ false → Seen figures i seen → Seen figures (i + 1) (set seen t true)
  seen-with seen t size fixed new before =
      let on : t < 64 = (fixed-only f t size fixed).0 in
      let whole : length seen ≡ 64 = before.size in
      record {
        size = length-set seen t true ∙ whole;
        each = λ s low. elim (cases_eq s t) [
          | inl same ↦
              ap (λ (b : Bool). (b && list_any (is_fixed_on s) (drop (i + 1) figures)) || do_two (is_fixed_on s) (drop (i + 1) figures)) (ap (is_in (set seen t true)) same ∙ get_or-set_same seen t true false (omega arith))
              ∙ sym (two-here (is_in seen s) (is_fixed_on s f) (list_any (is_fixed_on s) (drop (i + 1) figures)) (do_two (is_fixed_on s) (drop (i + 1) figures)) (ap (is_in seen) same ∙ new) (ap (λ (x : ℕ). is_fixed_on x f) same ∙ fixed))
              ∙ sym (opened s (is_in seen s)) ∙ before.each s low
          | inr other ↦
              ap (λ (b : Bool). (b && list_any (is_fixed_on s) (drop (i + 1) figures)) || do_two (is_fixed_on s) (drop (i + 1) figures)) (get_or-set_other seen t s true false other)
              ∙ sym (two-more (is_in seen s) (is_fixed_on s f) (list_any (is_fixed_on s) (drop (i + 1) figures)) (do_two (is_fixed_on s) (drop (i + 1) figures)) (sym (fixed-same f t s size fixed) ∙ ne_eqb s t other))
              ∙ sym (opened s (is_in seen s)) ∙ before.each s low
        ];
      }

  pub seen-twice : (seen : List Bool) (t : ℕ) → length f.squares ≡ 64 → is_fixed_on t f ≡ true → is_in seen t ≡ true → Seen figures i seen → true ≡ has_two figures
  unfolding has_two
  seen-twice seen t size fixed old before =
      let on : t < 64 = (fixed-only f t size fixed).0 in
      let here : do_two (is_fixed_on t) figures ≡ true = sym (before.each t on) ∙ opened t (is_in seen t) ∙ two-twice (is_in seen t) (is_fixed_on t f) (list_any (is_fixed_on t) (drop (i + 1) figures)) (do_two (is_fixed_on t) (drop (i + 1) figures)) old fixed in
      sym (any-found (is_twice figures) 0 64 t (omega arith) on here)

pub drop-all : (l : List Figure) (i : ℕ) → length l ≤ i → drop i l ≡ []
drop-all [] zero past = refl
drop-all [] (suc i) past = refl
drop-all (f ∷ l) zero past = absurd (omega arith)
drop-all (f ∷ l) (suc i) past = drop-all l i (omega arith)

and-or : (b : Bool) → ((b && false) || false) ≡ false
and-or true = refl
and-or false = refl

pub seen-end : (figures : List Figure) (i : ℕ) (seen : List Bool) → length figures ≤ i → Seen figures i seen → false ≡ has_two figures
unfolding has_two
seen-end figures i seen past done = sym (false_from_ne_true _ (λ h.
    let it = any-told (is_twice figures) 0 64 h in
    let rest : drop i figures ≡ [] = drop-all figures i past in
    let none : do_two (is_fixed_on it.0) figures ≡ false = sym (done.each it.0 it.1) ∙ ap (λ (l : List Figure). (is_in seen it.0 && list_any (is_fixed_on it.0) l) || do_two (is_fixed_on it.0) l) rest ∙ and-or (is_in seen it.0) in
    both_ways _ none it.2))

pub clash-made : (S : Sketch) → (list_any has_no_square S || has_two S) ≡ is_clash S
unfolding is_clash has_no_square has_two
clash-made S = refl
