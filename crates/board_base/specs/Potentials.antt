-- Dual potentials of an assignment: a number for each of a side's pawns and for each of the eight files.
use Rattle.std.specs.Prelude.{◌≡◌, ◌≤◌, List, length, ℤ, pos, neg_ℤ, ◌≤ℤ◌}
use Rattle.std.specs.List.{All}

-- a number for each pawn, and a number for each file
pub record Duals : Type 0 where
  pub u : List ℤ
  pub v : List ℤ

-- these numbers for the pawns and for the files
abbrev pub duals : List ℤ → List ℤ → Duals
duals u v = record { u = u; v = v }

-- the number is from -64 to 64
abbrev pub IsWithinLimit : ℤ → Type 0
IsWithinLimit x = (neg_ℤ (pos 64) ≤ℤ x) × (x ≤ℤ pos 64)

-- at most eight pawns and exactly eight files, each with a number from -64 to 64
pub record ArePotentials (d : Duals) : Type 0 where
  pub pawns : length d.u ≤ 8
  pub files : length d.v ≡ 8
  pub u_within : All IsWithinLimit d.u
  pub v_within : All IsWithinLimit d.v
