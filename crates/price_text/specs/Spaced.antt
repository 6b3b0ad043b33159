-- Inner: no public clause cites this file.
-- Words with spaces.
use Rattle.std.specs.Prelude.{ℕ, List, [], ◌∷◌, ◌++◌}

-- words, with a space behind each
abbrev pub with_spaces_behind : List (List ℕ) → List ℕ
with_spaces_behind [] = []
with_spaces_behind (w ∷ ws) = w ++ 32 ∷ with_spaces_behind ws

-- words, with a space before each
abbrev pub with_spaces_before : List (List ℕ) → List ℕ
with_spaces_before [] = []
with_spaces_before (w ∷ ws) = 32 ∷ (w ++ with_spaces_before ws)
