-- How far searches go.
use Rattle.std.specs.Prelude.{ℕ, ◌≤◌}

-- a search goes back at most 64 moves, and visits at least one query and at most 500,000
pub record IsBudget (depth nodes : ℕ) : Type 0 where
  pub shallow : depth ≤ 64
  pub some_nodes : 1 ≤ nodes
  pub few_nodes : nodes ≤ 500000
