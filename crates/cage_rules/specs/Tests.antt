-- Inner: no public clause cites this file.
-- The sets of squares by which men are sorted, and what a round of the loop leaves of a set.
use Rattle.std.specs.Prelude.{ℕ, Bool, true, false, cond, ◌&&◌, ◌||◌, not, ◌==◌, List, slice_set, Option, Some, None}
use Rattle.board_base.specs.Board.{Places, at, is_empty, is_in, rank, same_colour, same_kind, same_place}
use Rattle.board_base.specs.Legal.{last_rank}
use Rattle.board_base.specs.declared.men.Colour.{Colour}
use Rattle.board_base.specs.declared.men.Colour.TheVariants.{White, Black}
use Rattle.board_base.specs.declared.men.Kind.{Kind}
use Rattle.board_base.specs.declared.men.Kind.TheVariants.{Pawn, Knight, Bishop, Rook, Queen, King}
use Rattle.board_base.specs.declared.men.Man.{Man}
use Rattle.query_base.specs.Asked.{Asked}
use Rattle.cage_rules.specs.declared.ways.Ways.{Ways}
use Rattle.cage_rules.specs.Frozen.{is_behind, is_held_home, is_past_home}
use Rattle.cage_rules.specs.Sets.{squares_that}
use Rattle.cage_rules.specs.SetSteps.{outside}
use Rattle.cage_rules.specs.Steps.{is_diagonal_step, is_knight_step, is_line_step, is_near}

-- men of this kind go along lines, along diagonals
abbrev pub on_lines : Kind → Bool
on_lines k = same_kind k Rook || same_kind k Queen || same_kind k King

abbrev pub on_diagonals : Kind → Bool
on_diagonals k = same_kind k Bishop || same_kind k Queen || same_kind k King

-- a man of this kind on s may have come there as a pawn of this colour, also one that was promoted there
unfoldable pub as_pawn : Colour → Kind → ℕ → Bool
as_pawn c Pawn s = is_past_home c s
as_pawn c Knight s = rank s == last_rank c
as_pawn c Bishop s = rank s == last_rank c
as_pawn c Rook s = rank s == last_rank c
as_pawn c Queen s = rank s == last_rank c
as_pawn c King s = false

-- the kind of the man on the place passes the test
abbrev pub is_kind : (Kind → Bool) → Option Man → Bool
is_kind p None = false
is_kind p (Some m) = p m.kind

-- the man on s may have come there as a pawn of this colour
abbrev pub came_as_pawn : Colour → Option Man → ℕ → Bool
came_as_pawn c None s = false
came_as_pawn c (Some m) s = same_colour c m.colour && as_pawn c m.kind s

-- the occupied squares, the homes that are held, and the squares of the men who come along lines, along diagonals, by knights' moves, and as pawns
abbrev pub ways_of : Asked → Ways
ways_of q = record {
  occupied = squares_that (λ s. not (is_empty (at q.board s)));
  held = squares_that (is_held_home q.held);
  lines = squares_that (λ s. is_kind on_lines (at q.board s));
  diagonals = squares_that (λ s. is_kind on_diagonals (at q.board s));
  knights = squares_that (λ s. is_kind (same_kind Knight) (at q.board s));
  white_pawns = squares_that (λ s. came_as_pawn White (at q.board s) s);
  black_pawns = squares_that (λ s. came_as_pawn Black (at q.board s) s);
}

-- the sets, with what stands on s added to those that it belongs to
abbrev pub with_place : Ways → ℕ → Option Man → Ways
with_place w s place = record {
  occupied = cond (not (is_empty place)) (slice_set w.occupied s true) w.occupied;
  held = w.held;
  lines = cond (is_kind on_lines place) (slice_set w.lines s true) w.lines;
  diagonals = cond (is_kind on_diagonals place) (slice_set w.diagonals s true) w.diagonals;
  knights = cond (is_kind (same_kind Knight) place) (slice_set w.knights s true) w.knights;
  white_pawns = cond (came_as_pawn White place s) (slice_set w.white_pawns s true) w.white_pawns;
  black_pawns = cond (came_as_pawn Black place s) (slice_set w.black_pawns s true) w.black_pawns;
}

-- the man on s may have come by one of his ways from a square outside the set
abbrev pub is_loose : Ways → List Bool → ℕ → Bool
is_loose w set s =
    (is_in w.lines s && is_near is_line_step (outside set) s || is_in w.diagonals s && is_near is_diagonal_step (outside set) s || is_in w.knights s && is_near is_knight_step (outside set) s)
    || (is_in w.white_pawns s && is_near (is_behind White) (outside set) s || is_in w.black_pawns s && is_near (is_behind Black) (outside set) s)

-- the squares of the men who are loose
unfoldable pub loose : Ways → List Bool → List Bool
loose w set = squares_that (is_loose w set)

-- the square is in the set and occupied, and is a home that is held, or its man is not loose
abbrev pub stays : Ways → List Bool → ℕ → Bool
stays w set s = is_in set s && is_in w.occupied s && (is_in w.held s || not (is_loose w set s))

-- the squares of the set that stay when those whose men are loose are taken out
unfoldable pub kept : Ways → List Bool → List Bool
kept w set = squares_that (stays w set)

-- the squares that hold the same on both boards
unfoldable pub squares_alike : Places → Places → List Bool
squares_alike board first = squares_that (λ s. same_place (at board s) (at first s))
