-- How high a certificate's tree is.
use Rattle.std.specs.Prelude.{ℕ, suc, max}
use Rattle.cert_text.specs.Tree.{Tree, Forest, rule, back, expand, sketch, none, more}

abbrev mutual
  -- 0 for a rule line, a step back or a sketch; 1 for a node that is expanded without children, and else one more than its highest child
  pub height : Tree → ℕ
  height (rule r) = 0
  height (back k) = 0
  height (expand kids) = suc (height_of_all kids)
  height (sketch b) = 0

  -- the height of the highest of these trees; 0 if there is none
  pub height_of_all : Forest → ℕ
  height_of_all none = 0
  height_of_all (more label tree rest) = max (height tree) (height_of_all rest)
