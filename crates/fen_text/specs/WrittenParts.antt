-- Inner: no public clause cites this file.
-- The ranks of a board from one on, and the letters of castlings, as they are written one after another.
use Rattle.std.specs.Prelude.{ℕ, zero, suc, ◌*◌, Bool, true, false, List, [], ◌∷◌, ◌++◌, take, drop}
use Rattle.board_base.specs.Board.{Places}
use Rattle.fen_text.specs.Spelling.{rank_text}

-- the places of the rank with this number, from 0
abbrev pub rank_of : ℕ → Places → Places
rank_of n board = take 8 (drop (8 * n) board)

-- the rank with this number, and those below it
unfoldable pub ranks_text : ℕ → Places → List ℕ
ranks_text zero board = rank_text 0 (rank_of 0 board)
ranks_text (suc n) board = rank_text 0 (rank_of (suc n) board) ++ 47 ∷ ranks_text n board

-- the letter, if it is wanted
abbrev pub letter_if : Bool → ℕ → List ℕ
letter_if false letter = []
letter_if true letter = letter ∷ []
