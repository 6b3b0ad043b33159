-- The least zones of pawns, as functions of the figures and of the squares of men who stay.
use Rattle.std.specs.Prelude.{ℕ, Bool, ◌&&◌, ◌||◌, not, ◌==◌, nat_lt, List, map}
use Rattle.std.specs.List.{filter, list_all, list_any, range_with_len}
use Rattle.board_base.specs.Board.{is_in, same_kind}
use Rattle.board_base.specs.declared.men.Kind.TheVariants.{Pawn}
use Rattle.cage_rules.specs.Sets.{each_set, squares_that}
use Rattle.figures.specs.Figures.{Figure, Sketch}
use Rattle.past_account.specs.Zones.{goes_on, is_closed_by}

-- these squares are all in the zone
abbrev pub has_all : List Bool → List Bool → Bool
has_all zone squares = list_all (λ s. not (is_in squares s) || is_in zone s) (range_with_len 0 64)

-- The zone has all squares of the figure, and each from which the figure's pawn, who isn't of the set, goes on to one of its squares.
unfoldable pub is_zone : List Bool → Figure → List Bool → Bool
is_zone set f zone = has_all zone f.squares && is_closed_by (λ t z. goes_on set f z t) zone

-- the least: the squares that each such zone has
unfoldable pub least_zone : List Bool → Figure → List Bool
least_zone set f = squares_that (λ s. each_set (λ zone. not (is_zone set f zone) || is_in zone s))

-- the set has no squares but these two
unfoldable pub is_only : List Bool → ℕ → ℕ → Bool
is_only zone t u = list_all (λ s. not (is_in zone s) || (s == t) || (s == u)) (range_with_len 0 64)

-- it has exactly two squares
unfoldable pub is_pair : List Bool → Bool
is_pair zone = list_any (λ t. list_any (λ u. nat_lt t u && is_in zone t && is_in zone u && is_only zone t u) (range_with_len 0 64)) (range_with_len 0 64)

-- the figure is a pawn, and his least zone has exactly two squares
abbrev pub has_pair : List Bool → Figure → Bool
has_pair set f = list_all (same_kind Pawn) f.kinds && is_pair (least_zone set f)

-- the zones that count: of the pawns those of exactly two squares, since an officer's single step leaves a square of any larger one
abbrev pub pair_zones : List Bool → Sketch → List (List Bool)
pair_zones set S = map (least_zone set) (filter (has_pair set) S)
