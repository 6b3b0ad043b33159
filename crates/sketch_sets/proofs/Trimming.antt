-- Trimmed sketches, figure by figure.
use Rattle.std.proofs.Common.{◌≡◌, ℕ, suc, List, [], ◌∷◌, Bool, true, false, ◌&&◌, ◌||◌, not, map, refl, ap, sym, ◌∙◌}
use Rattle.std.specs.List.{list_all}
use Rattle.general_lemmas.proofs.Truth.{and-joined}
use Rattle.board_base.specs.Board.{is_in, same_kind}
use Rattle.board_base.specs.declared.men.Kind.TheVariants.{Pawn}
use Rattle.figures.proofs.SetAlgebra.{same-that}
use Rattle.figures.specs.Figures.{Figure, Sketch, each_changed, fixed_squares, is_fixed_on}
use Rattle.figures.specs.Trimmed.{is_in_order, is_left_to, trimmed, trimmed_figure}
use Rattle.sketch_sets.specs.Files.{gives_room, has_all_room}
use Rattle.sketch_sets.specs.Tests.{is_kept, kept_squares}
use Rattle.sketch_sets.specs.Remade.{with_set}

pub kept-out : (T : Sketch) (fixed : List Bool) (f : Figure) (s : ℕ) → (not (is_in fixed s) || is_fixed_on s f) ≡ false → false ≡ is_kept T fixed f s
unfolding is_kept
kept-out T fixed f s out = sym (ap (λ (x : Bool). x && (not (list_all (same_kind Pawn) f.kinds) || has_all_room T f s)) out)

pub kept-officer : (T : Sketch) (fixed : List Bool) (f : Figure) (s : ℕ) → (not (is_in fixed s) || is_fixed_on s f) ≡ true → list_all (same_kind Pawn) f.kinds ≡ false → true ≡ is_kept T fixed f s
unfolding is_kept
kept-officer T fixed f s left other = sym (ap (λ (x : Bool). x && (not (list_all (same_kind Pawn) f.kinds) || has_all_room T f s)) left ∙ ap (λ (x : Bool). not x || has_all_room T f s) other)

pub kept-pawn : (T : Sketch) (fixed : List Bool) (f : Figure) (s : ℕ) → (not (is_in fixed s) || is_fixed_on s f) ≡ true → list_all (same_kind Pawn) f.kinds ≡ true → has_all_room T f s ≡ is_kept T fixed f s
unfolding is_kept
kept-pawn T fixed f s left pawn = sym (ap (λ (x : Bool). x && (not (list_all (same_kind Pawn) f.kinds) || has_all_room T f s)) left ∙ ap (λ (x : Bool). not x || has_all_room T f s) pawn)

kept-trimmed : (T : Sketch) (f : Figure) → with_set (kept_squares T (fixed_squares T)) f ≡ trimmed_figure T f
unfolding kept_squares is_kept gives_room
kept-trimmed T f = ap (λ (l : List Bool). record f { squares = l }) (same-that (λ s. is_in f.squares s && is_kept T (fixed_squares T) f s) (λ s. is_in f.squares s && is_left_to T f s && is_in_order T f s) (λ s inside. and-joined (is_in f.squares s) (is_left_to T f s) (is_in_order T f s)))

each-map : (h : Figure → Figure) (g : ℕ → Figure → Figure) (k : ℕ) (T : Sketch) → ((i : ℕ) (f : Figure) → h f ≡ g i f) → map h T ≡ each_changed g k T
each-map h g k [] same = refl
each-map h g k (f ∷ T) same = ap (λ (x : Figure). x ∷ map h T) (same k f) ∙ ap (λ (l : List Figure). g k f ∷ l) (each-map h g (suc k) T same)

pub trimmed-made : (T : Sketch) (fixed : List Bool) → fixed ≡ fixed_squares T → map (with_set (kept_squares T fixed)) T ≡ trimmed T
unfolding trimmed
trimmed-made T fixed e = ap (λ (l : List Bool). map (with_set (kept_squares T l)) T) e ∙ each-map (with_set (kept_squares T (fixed_squares T))) (λ i f. trimmed_figure T f) 0 T (λ i f. kept-trimmed T f)
