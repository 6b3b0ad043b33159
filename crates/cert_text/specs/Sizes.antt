-- Inner: no public clause cites this file.
-- The sizes of trees, and the children from a place on.
use Rattle.std.specs.Prelude.{ℕ, ◌+◌}
use Rattle.std.proofs.Common.{zero, suc}
use Rattle.cert_text.specs.Tree.{Tree, Forest, rule, back, expand, sketch, none, more}

-- the children from this place on
abbrev pub rest_of : Forest → ℕ → Forest
rest_of f zero = f
rest_of none (suc i) = none
rest_of (more label tree rest) (suc i) = rest_of rest i

abbrev mutual
  -- a number above those of a tree's parts
  pub size : Tree → ℕ
  size (rule r) = 1
  size (back k) = 1
  size (expand kids) = suc (size_all kids)
  size (sketch b) = 1

  pub size_all : Forest → ℕ
  size_all none = 1
  size_all (more label tree rest) = suc (size tree + size_all rest)
