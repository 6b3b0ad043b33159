-- The lines of marks of a sketch, without their ends.
use Rattle.std.specs.Prelude.{ℕ, zero, suc, ◌+◌, ◌==◌, Bool, true, false, cond, ◌&&◌, nat_eq, nat_le, List, [], ◌∷◌, ◌++◌, drop, codes, Option, Some, None}
use Rattle.std.specs.Fmt.{decimal}
use Rattle.std.specs.List.{flat_map, slice_split, starts_with}
use Rattle.std.specs.Option.{option_map, option_and_then}
use Rattle.fen_text.specs.Parts.{parted}
use Rattle.sketch_text.specs.Nodes.{number_within}

-- a line of marks: the number of a line of prices, and those of figures
pub record Marks : Type 0 where
  pub by : ℕ
  pub figures : List ℕ

-- the words of a text, with one space between two
abbrev pub words : List ℕ → List (List ℕ)
words text = slice_split (λ b. b == 32) text

-- the numbers of at most so many figures that these words stand for, ascending, from the least to 32
abbrev pub figures_from : ℕ → ℕ → List (List ℕ) → Option (List ℕ)
figures_from n least [] = Some []
figures_from zero least (w ∷ ws) = None
figures_from (suc n) least (w ∷ ws) = option_and_then (λ i. option_map (λ more. i ∷ more) (figures_from n (i + 1) ws)) (number_within least 32 w)

-- by the line of prices with this number, figures whose numbers these words are
abbrev pub marked_by : ℕ → List ℕ → Option Marks
marked_by k text = option_map (λ figures. record { by = k; figures = figures }) (figures_from 32 1 (words text))

-- behind `mark`: the number of a line of prices, and the numbers of figures, at least one
unfoldable pub marks_of : ℕ → List ℕ → Option Marks
marks_of P text = parted 32 (number_within 1 P) (λ k. None) marked_by text

-- the line of marks
unfoldable pub mark_line : ℕ → List ℕ → Option Marks
mark_line P text = cond (starts_with nat_eq text (codes "mark ")) (marks_of P (drop 5 text)) None

-- texts

-- each number behind a space
unfoldable pub figures_text : List ℕ → List ℕ
figures_text figures = flat_map (λ i. 32 ∷ decimal i) figures

-- the one text of a line of marks
unfoldable pub mark_text : Marks → List ℕ
mark_text m = codes "mark " ++ decimal m.by ++ figures_text m.figures

-- these numbers ascend from the least to 32
abbrev pub are_figures : ℕ → List ℕ → Bool
are_figures least [] = true
are_figures least (i ∷ more) = nat_le least i && nat_le i 32 && are_figures (i + 1) more

-- there is one
abbrev pub is_some_figure : List ℕ → Bool
is_some_figure [] = false
is_some_figure (i ∷ more) = true

-- what is known of each line of marks
abbrev pub is_mark : ℕ → Marks → Bool
is_mark P m = nat_le 1 m.by && nat_le m.by P && is_some_figure m.figures && are_figures 1 m.figures
