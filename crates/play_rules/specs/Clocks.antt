-- How many moves were made since a pawn moved or a man was captured.
use Rattle.std.specs.Prelude.{ℕ, ◌+◌, Bool, cond, ◌||◌, not, nat_lt, List, [], ◌∷◌}
use Rattle.board_base.specs.Board.{Places, array_of, at, is_a, is_empty}
use Rattle.board_base.specs.Play.{play}
use Rattle.board_base.specs.declared.men.Kind.TheVariants.{Pawn}
use Rattle.board_base.specs.declared.moves.Move.{Move}

-- Article 9.3: the move is a pawn's, as each capture en passant is, or it captures
abbrev pub resets : Places → Move → Bool
resets board m = is_a Pawn (at board m.from) || not (is_empty (at board m.to))

-- the clock after these moves, which begin on this board, at clock n
abbrev pub clock_from : Places → ℕ → List Move → ℕ
clock_from board n [] = n
clock_from board n (m ∷ g) = clock_from (play board m) (cond (resets board m) 0 (n + 1)) g

-- Section 16.1.3.5 of the PGN standard: the half-move clock, how many moves of either side were made since the last that a pawn made or
-- that captured, or since the array
abbrev pub clock_after : List Bool → List Move → ℕ
clock_after o g = clock_from (array_of o) 0 g

-- so many moves, as far as they are counted: to 2^32 - 1
abbrev pub counted : ℕ → ℕ
counted n = cond (nat_lt n 4294967295) n 4294967295
