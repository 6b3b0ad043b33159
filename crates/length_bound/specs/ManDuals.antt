-- Dual potentials of men and homes: a number for each of at most sixteen men and for each of the sixteen homes of a side.
use Rattle.std.specs.Prelude.{◌≡◌, ◌≤◌, length}
use Rattle.std.specs.List.{All}
use Rattle.board_base.specs.Potentials.{Duals, IsWithinLimit}

-- at most sixteen men and exactly sixteen homes, each with a number from -64 to 64
pub record AreManPotentials (d : Duals) : Type 0 where
  pub men : length d.u ≤ 16
  pub homes : length d.v ≡ 16
  pub u_within : All IsWithinLimit d.u
  pub v_within : All IsWithinLimit d.v
