-- What officers and kings keep of their squares at one moment.
use Rattle.std.proofs.Common.{◌≡◌, ℕ, inl, inr, Bool, true, false, ◌&&◌, ◌||◌, not, List, length, refl, ap, sym, ◌∙◌}
use Rattle.std.proofs.lemmas.Bool.{and_from, and_left, cases_Bool, or_right}
use Rattle.std.specs.List.{list_all}
use Rattle.board_base.specs.Board.{is_in, same_kind}
use Rattle.board_base.specs.declared.men.Kind.TheVariants.{Pawn}
use Rattle.figures.specs.Sets.{squares_that}
use Rattle.figures.proofs.Filling.{is_in-that}
use Rattle.figures.proofs.SetAlgebra.{same-that, that-is}
use Rattle.figures.specs.Figures.{Figure, Sketch, is_fixed_on}
use Rattle.figures.proofs.Singles.{fixed-only, only-in}
use Rattle.sketch_sets.specs.Files.{has_all_room}
use Rattle.sketch_sets.specs.Tests.{free_squares, is_kept, kept_squares}

or-none : (b : Bool) → (b || false) ≡ b
or-none true = refl
or-none false = refl

and-all : (b : Bool) → (b && true) ≡ b
and-all true = refl
and-all false = refl

pub free-fixed : (fixed : List Bool) (f : Figure) (q : ℕ) → length f.squares ≡ 64 → is_fixed_on q f ≡ true → f.squares ≡ free_squares fixed f
unfolding free_squares
free-fixed fixed f q size h = that-is (λ s. is_in f.squares s && (not (is_in fixed s) || is_fixed_on s f)) f.squares size (λ s low. elim (cases_Bool (is_in f.squares s)) [
  | inl there ↦ there ∙ sym (and_from (is_in f.squares s) (not (is_in fixed s) || is_fixed_on s f) there (or_right (not (is_in fixed s)) (is_fixed_on s f) (on s there)))
  | inr out ↦ out ∙ sym (and_left (is_in f.squares s) (not (is_in fixed s) || is_fixed_on s f) out)
])
  where
    on : (s : ℕ) → is_in f.squares s ≡ true → is_fixed_on s f ≡ true
    on s there =
        let it = fixed-only f q size h in
        let same : s ≡ q = only-in q s (ap (λ (l : List Bool). is_in l s) (sym it.1) ∙ there) in
        ap (λ (n : ℕ). is_fixed_on n f) same ∙ h

pub free-loose : (fixed : List Bool) (f : Figure) → ((s : ℕ) → is_fixed_on s f ≡ false) → squares_that (λ s. is_in f.squares s && is_in (squares_that (λ t. not (is_in fixed t))) s) ≡ free_squares fixed f
unfolding free_squares
free-loose fixed f none = same-that (λ s. is_in f.squares s && is_in (squares_that (λ t. not (is_in fixed t))) s) (λ s. is_in f.squares s && (not (is_in fixed s) || is_fixed_on s f)) (λ s low. ap (λ (b : Bool). is_in f.squares s && b) (is_in-that (λ t. not (is_in fixed t)) s low ∙ sym (ap (λ (b : Bool). not (is_in fixed s) || b) (none s) ∙ or-none (not (is_in fixed s)))))

pub kept-free : (T : Sketch) (fixed : List Bool) (f : Figure) → list_all (same_kind Pawn) f.kinds ≡ false → free_squares fixed f ≡ kept_squares T fixed f
unfolding free_squares kept_squares is_kept
kept-free T fixed f other = same-that (λ s. is_in f.squares s && (not (is_in fixed s) || is_fixed_on s f)) (λ s. is_in f.squares s && is_kept T fixed f s) (λ s low. ap (λ (b : Bool). is_in f.squares s && b) (sym (ap (λ (b : Bool). (not (is_in fixed s) || is_fixed_on s f) && (not b || has_all_room T f s)) other ∙ and-all (not (is_in fixed s) || is_fixed_on s f))))
