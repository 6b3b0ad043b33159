-- Inner: no public clause cites this file.
-- What holds of the costs of pawns, and how they are stored.
use Rattle.std.specs.Prelude.{ℕ, ◌≡◌, ◌≤◌, List, length, take}
use Rattle.assignment.specs.Tables.{IsTable}
use Rattle.pawn_assign.specs.declared.table.Costs.TheInside.{Inside}

-- the rows that there are
abbrev pub rows_seen : Inside → List (List ℕ)
rows_seen a = take a.count a.table

-- at most eight rows, each of eight costs of at most 64
pub record IsStored (a : Inside) : Type 0 where
  pub count : a.count ≤ 8
  pub size : length a.table ≡ 8
  pub table : IsTable (rows_seen a) 8 64
