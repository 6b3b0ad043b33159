-- Pawns of one file stand in the order of their places, as none of them passes another.
use Rattle.std.specs.Prelude.{ℕ, Bool, ◌&&◌, ◌||◌, not, ◌==◌, nat_lt}
use Rattle.std.specs.List.{list_all, list_any, range_with_len}
use Rattle.board_base.specs.Board.{file, is_in, rank, same_kind}
use Rattle.board_base.specs.declared.men.Kind.TheVariants.{Pawn}
use Rattle.past_sketches.specs.Figures.{Figure}

-- the figure is a pawn on this file
abbrev pub is_pawn_on : ℕ → Figure → Bool
is_pawn_on n g = list_all (same_kind Pawn) g.kinds && list_all (λ q. not (is_in g.squares q) || (file q == n)) (range_with_len 0 64)

-- the figure may stand on a lower rank than e
abbrev pub stands_below : ℕ → Figure → Bool
stands_below e g = list_any (λ q. is_in g.squares q && nat_lt (rank q) (rank e)) (range_with_len 0 64)

-- the figure may stand on a higher rank than e
abbrev pub stands_above : ℕ → Figure → Bool
stands_above e g = list_any (λ q. is_in g.squares q && nat_lt (rank e) (rank q)) (range_with_len 0 64)

-- if the figure is a pawn on the file of e, he may stand below it where that is asked, and above it where that is
abbrev pub stands_beside : ℕ → Bool → Bool → Figure → Bool
stands_beside e below above g = not (is_pawn_on (file e) g) || ((not below || stands_below e g) && (not above || stands_above e g))

-- the figure g leaves f room on e: a pawn of that file with a lower place may stand below e, and one with a higher place above it
abbrev pub leaves_room : Figure → ℕ → Figure → Bool
leaves_room f e g = stands_beside e (nat_lt g.place f.place) (nat_lt f.place g.place) g
