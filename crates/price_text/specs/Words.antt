-- The words of a text.
use Rattle.std.specs.Prelude.{ℕ, Bool, ◌==◌, List, codes}
use Rattle.std.specs.List.{slice_split}
use Rattle.std.specs.Str.{bytes_eq}

-- the words of a text, with one space between two
abbrev pub words : List ℕ → List (List ℕ)
words text = slice_split (λ b. b == 32) text

-- the word between two lists of numbers
abbrev pub is_slash : List ℕ → Bool
is_slash w = bytes_eq w (codes "/")
