-- The first line of an input, and what follows it.
use Rattle.std.specs.Prelude.{ℕ, ◌-◌, cond, nat_eq, List, [], ◌∷◌, length, take, Option, Some, None}
use Rattle.std.specs.List.{ends_with}
use Rattle.fen_text.specs.Parts.{cut_at}

-- a line without the carriage return at its end, if there is one
abbrev pub without_return : List ℕ → List ℕ
without_return line = cond (ends_with nat_eq line (13 ∷ [])) (take (length line - 1) line) line

-- what stands before and after the cut at an input's first line end, if it has one
abbrev pub first_and_rest : List ℕ → Option (List ℕ × List ℕ) → List ℕ × List ℕ
first_and_rest input None = (input, [])
first_and_rest input (Some parts) = (without_return parts.0, parts.1)

-- the first line of an input, without its end
unfoldable pub first_line : List ℕ → List ℕ
first_line input = (first_and_rest input (cut_at 10 input)).0

-- what follows the first line of an input
unfoldable pub after_first : List ℕ → List ℕ
after_first input = (first_and_rest input (cut_at 10 input)).1
