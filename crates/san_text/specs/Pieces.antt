-- Inner: no public clause cites this file.
-- Words put one after another.
use Rattle.std.specs.Prelude.{ℕ, List, [], ◌∷◌, ◌++◌}
use Rattle.std.specs.List.{fold}

-- a text with a word more, after a space unless it is the first
abbrev pub added : List ℕ → List ℕ → List ℕ
added [] word = word
added (b ∷ text) word = b ∷ text ++ 32 ∷ word

-- a text with some words more
abbrev pub added_all : List ℕ → List (List ℕ) → List ℕ
added_all text words = fold added text words
