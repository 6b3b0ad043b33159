-- Inner: no public clause cites this file.
-- What `--help` writes.
use Rattle.std.specs.Prelude.{ℕ, ◌≡◌, ◌↔◌, ◌^◌, ◌-◌, Bool, IsTrue, List, [], ◌∷◌, ◌++◌, ◌&&◌, codes, nat_eq}
use Rattle.std.specs.Fmt.{format_spec, padded}
use Rattle.std.specs.List.{Contains, flat_map, list_all, starts_with}
use Rattle.retro_top.specs.Names.{IsCommand}
use Rattle.retro_top.specs.Rows.{names_of}
use Rattle.retro_top.specs.declared.rows.Row.{Row}
use Rattle.hint_texts.specs.OneLine.{is_one_line}

-- the row of a command: how it is called, in a column of 36 characters at least, and what it answers
abbrev pub row_of : Row → List ℕ
row_of row = codes "  retractor " ++ (padded (format_spec 32 1 0 36 (2 ^ 64 - 1)) row.line.now ++ 32 ∷ (row.answer.now ++ 10 ∷ []))

-- the row is one line, and begins with the command's name
abbrev pub is_one_row : Row → Bool
is_one_row row = starts_with nat_eq row.line.now row.name.now && (is_one_line row.line.now && is_one_line row.answer.now)

-- the text is the head of the usage, and a row for each command of these names; the rows are one line each, or not
pub record HasRows (text : List ℕ) (names : List (List ℕ)) (lines : Bool) : Type 0 where
  pub rows : List Row
  pub names_are : names_of rows ≡ names
  pub lines_are : list_all is_one_row rows ≡ lines
  pub text_is : text ≡ (codes "usage:" ++ 10 ∷ []) ++ flat_map row_of rows

-- the text has a row for each command, one line that begins with its name, and no other rows, and something behind the rows
pub record IsUsage (text : List ℕ) : Type 0 where
  pub rows : List Row
  pub further : List ℕ
  pub commands_are : (name : List ℕ) → Contains (names_of rows) name ↔ IsCommand name
  pub lines_are : IsTrue (list_all is_one_row rows)
  pub text_is : text ≡ ((codes "usage:" ++ 10 ∷ []) ++ flat_map row_of rows) ++ further
