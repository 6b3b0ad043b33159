use Rattle.std.proofs.Common.{ℕ, ◌<◌, get_or}
use Rattle.query_base.specs.declared.rule_lines.RuleLine.TheVariants.{Kings}
use Rattle.static_rules.specs.Supports.{Supports}
use Rattle.static_rules.proofs.closing.first_of.Given as goal

abbrev pub invariant-loop-rule : goal.invariant-loop-rule
invariant-loop-rule l = (k : ℕ) → k < l.rule-index → Supports l.query (get_or l.rules k Kings) → ⊥
