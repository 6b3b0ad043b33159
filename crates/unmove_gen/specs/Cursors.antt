-- Inner: no public clause cites this file.
-- Candidates by their parts.
use Rattle.std.specs.Prelude.{ℕ}
use Rattle.unmove_gen.specs.Numbers.{number_at}
use Rattle.unmove_gen.specs.declared.candidates.Cursor.{Cursor}

-- the number of the candidate with these parts
abbrev pub number_of : Cursor → ℕ
number_of p = number_at p.to p.from p.promotion p.capture
