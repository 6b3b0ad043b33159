-- Rows made of a line: words are put into a row as long as they fit.
use Rattle.std.specs.Prelude.{ℕ, ◌-◌, ◌+◌, ◌==◌, nat_le, nat_lt, not, Bool, ◌&&◌, ◌||◌, cond, List, [], ◌∷◌, ◌++◌, length, slice_index, codes}
use Rattle.std.specs.List.{prefix_len}

-- a blank or a line end
abbrev pub is_gap : ℕ → Bool
is_gap letter = (letter == 32) || (letter == 10)

-- how many letters come before the next blank or line end
abbrev pub word_length : List ℕ → ℕ
word_length line = prefix_len (λ letter. not (is_gap letter)) line

-- behind so many letters of a row stands a blank whose word would end beyond the hundredth
abbrev pub is_cut : ℕ → ℕ → List ℕ → Bool
is_cut column letter rest = (letter == 32) && nat_le 100 (column + word_length rest)

-- how many letters a row has behind a letter
abbrev pub column_after : ℕ → ℕ → ℕ
column_after column letter = cond (letter == 10) 0 (column + 1)

-- The rest of a line, behind so many letters of a row: each blank whose word doesn't fit into the hundred columns of the row is a line end
-- with an indent of four, and all other letters are themselves.
abbrev pub cut_from : ℕ → List ℕ → List ℕ
cut_from column [] = []
cut_from column (letter ∷ rest) =
    cond (is_cut column letter rest) (codes "\n    " ++ cut_from 4 rest) (letter ∷ cut_from (column_after column letter) rest)

-- a line end is the last letter
abbrev pub is_ended : List ℕ → Bool
is_ended line = nat_lt 0 (length line) && (slice_index line (length line - 1) == 10)

-- a line end, where there is none yet
abbrev pub end_of : List ℕ → List ℕ
end_of line = cond (is_ended line) [] (codes "\n")

-- the rows of a line, with a line end behind them
abbrev pub rows_of : List ℕ → List ℕ
rows_of line = cut_from 0 line ++ end_of line
