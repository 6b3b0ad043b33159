-- Trimmed sketches: at one moment everybody stands on a square of his own, and the pawns of a file stand in their order.
use Rattle.std.specs.Prelude.{ℕ, zero, suc, Bool, ◌&&◌, ◌||◌, not}
use Rattle.std.specs.List.{list_all}
use Rattle.board_base.specs.Board.{is_in, same_kind}
use Rattle.board_base.specs.declared.men.Kind.TheVariants.{Pawn}
use Rattle.cage_rules.specs.Sets.{squares_that}
use Rattle.past_sketches.specs.Figures.{Figure, Sketch, each_changed, fixed_squares, is_fixed_on}
use Rattle.past_sketches.specs.FileOrder.{leaves_room}

-- nobody is fixed on s, unless it is the figure himself
abbrev pub is_left_to : Sketch → Figure → ℕ → Bool
is_left_to T f s = not (is_in (fixed_squares T) s) || is_fixed_on s f

-- if he is a pawn, those of his file leave room for him on s
abbrev pub is_in_order : Sketch → Figure → ℕ → Bool
is_in_order T f s = not (list_all (same_kind Pawn) f.kinds) || list_all (leaves_room f s) T

abbrev pub trimmed_figure : Sketch → Figure → Figure
trimmed_figure T f = record f { squares = squares_that (λ s. is_in f.squares s && is_left_to T f s && is_in_order T f s) }

-- each figure loses the squares on which another is fixed, and a pawn those that its neighbours on the file leave no room for
unfoldable pub trimmed : Sketch → Sketch
trimmed T = each_changed (λ i f. trimmed_figure T f) 0 T

-- the sketch, trimmed so many times
abbrev pub trims : ℕ → Sketch → Sketch
trims zero T = T
trims (suc n) T = trims n (trimmed T)
