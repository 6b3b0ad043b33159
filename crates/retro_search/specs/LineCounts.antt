-- Inner: no public clause cites this file.
-- How many lines of a certificate a tree fills.
use Rattle.std.specs.Prelude.{ℕ, suc, ◌+◌, ◌*◌}
use Rattle.sketch_body.specs.Bodies.{units_of}
use Rattle.cert_text.specs.Tree.{Tree, Forest, rule, back, expand, sketch, none, more}
use Rattle.cert_text.specs.declared.reasons.Reason.{Reason}
use Rattle.cert_text.specs.declared.reasons.Reason.TheVariants.{Line, Balance}

-- how many lines of at most 128 bytes a node's line fills, by its reason: one with prices fills two
abbrev pub lines_of_reason : Reason → ℕ
lines_of_reason (Line r) = 1
lines_of_reason (Balance set p) = 2

abbrev mutual
  -- how many lines of at most 128 bytes the tree fills at most: a line of a sketch counts as two for each of its units
  pub lines_in : Tree → ℕ
  lines_in (rule r) = lines_of_reason r
  lines_in (back k) = 1
  lines_in (expand kids) = suc (lines_in_all kids)
  lines_in (sketch b) = suc (2 * units_of b)

  -- how many these trees fill together
  pub lines_in_all : Forest → ℕ
  lines_in_all none = 0
  lines_in_all (more label tree rest) = lines_in tree + lines_in_all rest
