-- Inner: no public clause cites this file.
-- Ways of pawns that end on some squares, as a mark says or otherwise.
use Rattle.std.specs.Prelude.{ℕ, Bool, cond, ◌&&◌, not, ◌==◌, List}
use Rattle.std.specs.List.{list_any, range_with_len}
use Rattle.board_base.specs.Board.{is_in, man, rank}
use Rattle.board_base.specs.Legal.{is_officer, last_rank}
use Rattle.board_base.specs.declared.men.Colour.{Colour}
use Rattle.board_base.specs.declared.men.Kind.{Kind}
use Rattle.board_base.specs.declared.men.Kind.TheVariants.{Pawn}
use Rattle.men_fates.specs.Ways.{is_straight, way_end}
use Rattle.figures.specs.Figures.{Figure, may_be}
use Rattle.sketch_grounds.specs.Zones.{Room}

-- he comes straight to a rank short of the last where that is allowed, and in other ways where these are
abbrev pub comes_by : Colour → Bool → Bool → ℕ → List ℕ → Bool
comes_by c plain other h way = cond (is_straight h way) (cond (rank (way_end h way) == last_rank c) other plain) other

-- so to one of these squares
abbrev pub comes_to : Colour → List Bool → Bool → Bool → ℕ → List ℕ → Bool
comes_to c goals plain other h way = is_in goals (way_end h way) && comes_by c plain other h way

-- the figure may stand there, off the wall
abbrev pub is_free : List Bool → Figure → ℕ → Bool
is_free wall f s = is_in f.squares s && not (is_in wall s)

-- an officer of this kind has room from e to a square where the figure may stand, off the wall
abbrev pub has_room : Room → Colour → List Bool → Figure → ℕ → Kind → Bool
has_room R c wall f e k = list_any (λ s. is_free wall f s && R (man c k) e s) (range_with_len 0 64)

-- the figure may be an officer who was promoted on e
abbrev pub is_promoted : Room → Colour → List Bool → Figure → ℕ → Bool
is_promoted R c wall f e = list_any (λ k. is_officer k && has_room R c wall f e k) f.kinds

-- where his way as a pawn may have ended
abbrev pub is_goal : Room → Colour → List Bool → Figure → ℕ → Bool
is_goal R c wall f e = cond (rank e == last_rank c) (is_promoted R c wall f e) (may_be f Pawn && is_free wall f e)
