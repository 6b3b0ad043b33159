-- Inner: no public clause cites this file.
-- The least of what is told of a figure's kinds and squares.
use Rattle.std.specs.Prelude.{ℕ, ◌≡◌, ◌<◌, ◌≤◌, IsTrue}
use Rattle.board_base.specs.Board.{is_in}
use Rattle.board_base.specs.declared.men.Kind.{Kind}
use Rattle.balance_rule.specs.Costs.{never}
use Rattle.figures.specs.Figures.{Figure, may_be}

-- the kind and the square of the figure for which this is told
pub record Taken (f : Figure) (g : Kind → ℕ → ℕ) (n : ℕ) : Type 0 where
  pub kind : Kind
  pub square : ℕ
  pub may : IsTrue (may_be f kind)
  pub inside : square < 64
  pub member : IsTrue (is_in f.squares square)
  pub is : g kind square ≡ n

-- n is the least of what g tells of his kinds and squares, and `never` where there is none
pub record IsLeastOver (f : Figure) (g : Kind → ℕ → ℕ) (n : ℕ) : Type 0 where
  pub most : n ≤ never
  pub below : (k : Kind) (s : ℕ) → IsTrue (may_be f k) → s < 64 → IsTrue (is_in f.squares s) → n ≤ g k s
  pub found : n < never → Taken f g n
