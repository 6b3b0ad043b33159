-- Parts of a report.
use Rattle.std.specs.Prelude.{ℕ, ◌==◌, cond, List, [], ◌∷◌, length}
use Rattle.std.specs.List.{flat_map}

-- a part behind an empty line, if it has text
abbrev pub part_text : List ℕ → List ℕ
part_text part = cond (length part == 0) [] (10 ∷ part)

-- parts, one behind the other
unfoldable pub parts_text : List (List ℕ) → List ℕ
parts_text parts = flat_map part_text parts
