-- Figures by their numbers, and the squares on which they are fixed.
use Rattle.std.proofs.Common.{◌≡◌, ℕ, zero, suc, ◌<◌, ◌==◌, inl, inr, Bool, true, false, ◌||◌, not, List, [], ◌∷◌, refl, ap, sym, ◌∙◌, arith}
use Rattle.std.proofs.lemmas.Bool.{and_parts, and_from, or_cases, or_left, or_right, eqb-true, eq-eqb, both_ways, not-true}
use Rattle.std.proofs.lemmas.Option.{same_Some}
use Rattle.std.specs.Prelude.{Some}
use Rattle.std.specs.List.{list_all, list_any, range_with_len}
use Rattle.general_lemmas.proofs.Ranges.{all_in_range}
use Rattle.board_base.specs.Board.{is_in, same_kind}
use Rattle.board_base.specs.declared.men.Kind.{Kind}
use Rattle.board_base.proofs.KindsOfMen.{kind_is, same_kind-self}
use Rattle.cage_rules.proofs.Filling.{in-that, is_in-that}
use Rattle.past_sketches.specs.Figures.{Figure, Sketch, figure_at, fixed_squares, is_fixed_on, only_on}

-- a figure that passes a test, with his number
pub record AnyFigure (T : Sketch) (p : Figure → Bool) : Type 0 where
  pub number : ℕ
  pub figure : Figure
  pub found : figure_at T number ≡ Some figure
  pub passes : p figure ≡ true

pub any-figure : (T : Sketch) (p : Figure → Bool) → list_any p T ≡ true → AnyFigure T p
any-figure [] p h = absurd (both_ways false refl h)
any-figure (f ∷ T) p h = elim (or_cases _ _ h) [
  | inl first ↦ record { number = 0; figure = f; found = refl; passes = first }
  | inr later ↦ let more = any-figure T p later in record { number = suc more.number; figure = more.figure; found = more.found; passes = more.passes }
]

pub figure-any : (T : Sketch) (p : Figure → Bool) (i : ℕ) (f : Figure) → figure_at T i ≡ Some f → p f ≡ true → list_any p T ≡ true
figure-any [] p i f e h = cc
figure-any (g ∷ T) p zero f e h = or_left _ _ (ap p (same_Some _ _ e) ∙ h)
figure-any (g ∷ T) p (suc i) f e h = or_right _ _ (figure-any T p i f e h)

pub each-figure : (T : Sketch) (p : Figure → Bool) → ((i : ℕ) (f : Figure) → figure_at T i ≡ Some f → p f ≡ true) → list_all p T ≡ true
each-figure [] p each = refl
each-figure (f ∷ T) p each = and_from _ _ (each 0 f refl) (each-figure T p (λ i g e. each (suc i) g e))

-- a kind of a list
pub each-kind : (kinds : List Kind) (p : Kind → Bool) (k : Kind) → list_all p kinds ≡ true → list_any (λ j. same_kind j k) kinds ≡ true → p k ≡ true
each-kind [] p k all has = absurd (both_ways false refl has)
each-kind (j ∷ kinds) p k all has =
    let parts = and_parts _ _ all in
    elim (or_cases _ _ has) [
      | inl first ↦ ap p (sym (kind_is j k first)) ∙ parts.0
      | inr later ↦ each-kind kinds p k parts.1 later
    ]

pub kind-any : (kinds : List Kind) (p : Kind → Bool) (k : Kind) → list_any (λ j. same_kind j k) kinds ≡ true → p k ≡ true → list_any p kinds ≡ true
kind-any [] p k has h = absurd (both_ways false refl has)
kind-any (j ∷ kinds) p k has h = elim (or_cases _ _ has) [
  | inl first ↦ or_left _ _ (ap p (kind_is j k first) ∙ h)
  | inr later ↦ or_right _ _ (kind-any kinds p k later h)
]

pub only-kind : (j k : Kind) → j ≡ k → list_any (λ i. same_kind i k) (j ∷ []) ≡ true
only-kind j k e = or_left _ _ (ap (λ (i : Kind). same_kind i k) e ∙ same_kind-self k)

-- the set of one square has that one
pub only-on : (s t : ℕ) → t < 64 → s ≡ t → is_in (only_on s) t ≡ true
only-on s t inside e = is_in-that (λ u. u == s) t inside ∙ eq-eqb t s (sym e)

-- who is fixed on a square has no other
pub fixed-there : (s t : ℕ) (f : Figure) → is_fixed_on s f ≡ true → t < 64 → is_in f.squares t ≡ true → t ≡ s
fixed-there s t f fixed inside member =
    let all : list_all (λ u. not (is_in f.squares u) || (u == s)) (range_with_len 0 64) ≡ true = (and_parts (is_in f.squares s) _ fixed).1 in
    elim (or_cases _ _ (all_in_range (λ u. not (is_in f.squares u) || (u == s)) 0 64 t all (omega arith) (omega arith))) [
      | inl out ↦ absurd (both_ways _ (not-true _ out) member)
      | inr same ↦ eqb-true t s same
    ]

pub fixed-by : (T : Sketch) (s : ℕ) → is_in (fixed_squares T) s ≡ true → AnyFigure T (is_fixed_on s)
unfolding fixed_squares
fixed-by T s member = any-figure T (is_fixed_on s) (in-that (λ u. list_any (is_fixed_on u) T) s member).1
