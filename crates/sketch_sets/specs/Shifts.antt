-- Inner: no public clause cites this file.
-- What steps of whole sets of squares compute, square by square.
use Rattle.std.specs.Prelude.{ℕ, zero, suc, ◌+◌, ◌-◌, ◌*◌, Bool, true, false, ◌&&◌, ◌||◌, not, ◌==◌, nat_lt, nat_le, List}
use Rattle.std.specs.List.{list_all, range_with_len}
use Rattle.board_base.specs.Attacks.{files_apart, king_distance, on_one_diagonal, on_one_line, on_the_way, one_ahead, ranks_apart}
use Rattle.board_base.specs.Board.{file, is_in, rank}
use Rattle.board_base.specs.Ways.{along, changed}
use Rattle.board_base.specs.declared.lines.Change.{Change}
use Rattle.board_base.specs.declared.lines.Change.TheVariants.{Falls, Stays, Rises}
use Rattle.board_base.specs.declared.lines.Direction.{Direction}
use Rattle.board_base.specs.declared.men.Colour.{Colour}
use Rattle.board_base.specs.declared.men.Colour.TheVariants.{White, Black}
use Rattle.board_base.specs.declared.men.Kind.{Kind}
use Rattle.board_base.specs.declared.men.Kind.TheVariants.{Pawn, Knight, Bishop, Rook, Queen, King}

-- a step leads from this rank or file to one of the board
abbrev pub has_step : Change → ℕ → Bool
has_step Falls a = nat_lt 0 a
has_step Stays a = true
has_step Rises a = nat_lt a 7

-- the file of e, or its rank, changed so, comes to the set
unfoldable pub file_comes : Change → List Bool → ℕ → Bool
file_comes c set e = has_step c (file e) && is_in set (8 * rank e + changed c (file e) 1)

unfoldable pub rank_comes : Change → List Bool → ℕ → Bool
rank_comes c set e = has_step c (rank e) && is_in set (8 * changed c (rank e) 1 + file e)

-- one step in this direction from e stays on the board; it comes to the set
abbrev pub stays_on : Direction → ℕ → Bool
stays_on d e = has_step d.ranks (rank e) && has_step d.files (file e)

unfoldable pub comes : Direction → List Bool → ℕ → Bool
comes d set e = stays_on d e && is_in set (along d e 1)

-- at most n steps in this direction from e come to the set, none but the last to a square of the fixed
unfoldable pub comes_by : Direction → List Bool → List Bool → ℕ → ℕ → Bool
comes_by d to fixed zero e = false
comes_by d to fixed (suc n) e = stays_on d e && (is_in to (along d e 1) || (comes_by d to fixed n (along d e 1) && not (is_in fixed (along d e 1))))

-- a step in this direction leads from e to s
abbrev pub lands : Direction → ℕ → ℕ → Bool
lands d e s = stays_on d e && (along d e 1 == s)

-- at most n steps in this direction lead from e to s, none but the last to a square of the fixed
unfoldable pub reaches : Direction → List Bool → ℕ → ℕ → ℕ → Bool
reaches d fixed zero e s = false
reaches d fixed (suc n) e s = stays_on d e && ((along d e 1 == s) || (reaches d fixed n (along d e 1) s && not (is_in fixed (along d e 1))))

-- a step in the first direction and one in the second or the third come to the set
unfoldable pub turns : Direction → Direction → Direction → List Bool → ℕ → Bool
turns d l r to e = stays_on d e && (comes l to (along d e 1) || comes r to (along d e 1))

-- how the rank changes as pawns of this colour go
abbrev pub forward : Colour → Change
forward White = Rises
forward Black = Falls

-- at most n steps along a way lead from e to s, none but the last to a square of the fixed
abbrev pub is_short : List Bool → ℕ → ℕ → ℕ → Bool
is_short fixed n e s = not (e == s) && nat_le (king_distance e s) n && list_all (λ j. not (is_in fixed (on_the_way e s j))) (range_with_len 1 (king_distance e s - 1))

unfoldable pub goes_straight_on : List Bool → ℕ → ℕ → ℕ → Bool
goes_straight_on fixed n e s = on_one_line e s && is_short fixed n e s

unfoldable pub goes_diagonally : List Bool → ℕ → ℕ → ℕ → Bool
goes_diagonally fixed n e s = on_one_diagonal e s && is_short fixed n e s

-- a knight's move, and a pawn's capture
unfoldable pub hops : ℕ → ℕ → Bool
hops e s = files_apart e s * ranks_apart e s == 2

unfoldable pub strikes : Colour → ℕ → ℕ → Bool
strikes c e s = one_ahead c e s && (files_apart e s == 1)

-- a man of this kind attacks s from e: along lines by at most n steps, none but the last to a square of the fixed
unfoldable pub attacks_past : Kind → Colour → List Bool → ℕ → ℕ → ℕ → Bool
attacks_past Pawn c fixed n e s = strikes c e s
attacks_past Knight c fixed n e s = hops e s
attacks_past Bishop c fixed n e s = goes_diagonally fixed n e s
attacks_past Rook c fixed n e s = goes_straight_on fixed n e s
attacks_past Queen c fixed n e s = goes_straight_on fixed n e s || goes_diagonally fixed n e s
attacks_past King c fixed n e s = goes_straight_on fixed 1 e s || goes_diagonally fixed 1 e s
