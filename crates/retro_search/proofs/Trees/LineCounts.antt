-- How many lines a tree fills, and how many nodes it has.
use Rattle.std.proofs.Common.{◌≡◌, ◌≤◌, ◌*◌, refl, arith}
use Rattle.cert_text.specs.Tree.{Tree, Forest, rule, back, expand, sketch, none, more, units_each, units_in}
use Rattle.cert_text.specs.declared.reasons.Reason.TheVariants.{Line, Balance}
use Rattle.retro_search.specs.RuleLines.{AreByRuleLines, IsByRuleLines}
use Rattle.retro_search.specs.LineCounts.{lines_in, lines_in_all}
use Rattle.retro_search.specs.SketchTexts.{HasSketchTexts, HaveSketchTexts}
use Rattle.retro_search.specs.Sizes.{nodes_in, nodes_in_all}

mutual
  -- each node fills a line at least
  pub nodes_few : (t : Tree) → nodes_in t ≤ lines_in t
  nodes_few (rule (Line r)) = omega arith
  nodes_few (rule (Balance set p)) = omega arith
  nodes_few (back k) = omega arith
  nodes_few (expand kids) = omega (arith, nodes_few-each kids)
  nodes_few (sketch b) = omega arith

  nodes_few-each : (f : Forest) → nodes_in_all f ≤ lines_in_all f
  nodes_few-each none = omega arith
  nodes_few-each (more label tree rest) = omega (arith, nodes_few tree, nodes_few-each rest)

mutual
  -- and just one where there are no prices
  pub lined_counts : (t : Tree) → IsByRuleLines t → lines_in t ≡ nodes_in t
  lined_counts (rule (Line r)) lined = refl
  lined_counts (rule (Balance set p)) lined = absurd lined
  lined_counts (back k) lined = refl
  lined_counts (expand kids) lined = omega (arith, lined_counts-each kids lined)
  lined_counts (sketch b) lined = absurd lined

  lined_counts-each : (f : Forest) → AreByRuleLines f → lines_in_all f ≡ nodes_in_all f
  lined_counts-each none lined = refl
  lined_counts-each (more label tree rest) lined = omega (arith, lined_counts tree lined.0, lined_counts-each rest lined.1)

mutual
  -- each unit of a sketch counts as two lines
  pub units_few : (t : Tree) → 2 * units_in t ≤ lines_in t
  units_few (rule r) = omega arith
  units_few (back k) = omega arith
  units_few (expand kids) = omega (arith, units_few-each kids)
  units_few (sketch b) = omega arith

  units_few-each : (f : Forest) → 2 * units_each f ≤ lines_in_all f
  units_few-each none = omega arith
  units_few-each (more label tree rest) = omega (arith, units_few tree, units_few-each rest)

mutual
  -- a tree of rule lines has no sketch
  pub lined_texts : (t : Tree) → IsByRuleLines t → HasSketchTexts t
  lined_texts (rule r) lined = tt
  lined_texts (back k) lined = tt
  lined_texts (expand kids) lined = lined_texts-each kids lined
  lined_texts (sketch b) lined = absurd lined

  lined_texts-each : (f : Forest) → AreByRuleLines f → HaveSketchTexts f
  lined_texts-each none lined = tt
  lined_texts-each (more label tree rest) lined = (lined_texts tree lined.0, lined_texts-each rest lined.1)
