-- Trees all of whose reasons are rule lines.
use Rattle.cert_text.specs.Tree.{Tree, Forest, rule, back, expand, sketch, none, more}
use Rattle.cert_text.specs.declared.reasons.Reason.{Reason}
use Rattle.cert_text.specs.declared.reasons.Reason.TheVariants.{Line, Balance}

-- the reason is a rule line
abbrev pub IsRuleLine : Reason → Type 0
IsRuleLine (Line r) = Unit {0}
IsRuleLine (Balance set p) = ⊥

abbrev mutual
  -- all reasons of the tree are rule lines
  pub IsByRuleLines : Tree → Type 0
  IsByRuleLines (rule r) = IsRuleLine r
  IsByRuleLines (back k) = Unit {0}
  IsByRuleLines (expand kids) = AreByRuleLines kids
  IsByRuleLines (sketch b) = ⊥

  pub AreByRuleLines : Forest → Type 0
  AreByRuleLines none = Unit {0}
  AreByRuleLines (more label tree rest) = IsByRuleLines tree × AreByRuleLines rest
