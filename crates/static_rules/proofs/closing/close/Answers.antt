use Rattle.std.proofs.Common.{List}
use Rattle.std.specs.Prelude.{IfSome, MatchOption, None, Option, Some}
use Rattle.board_base.specs.declared.moves.Move.{Move}
use Rattle.query_base.specs.Asked.{Asked}
use Rattle.query_base.specs.Reach.{Reaches}
use Rattle.query_base.specs.declared.rule_lines.RuleLine.{RuleLine}
use Rattle.static_rules.specs.Supports.{Supports}
use Rattle.static_rules.proofs.Unreached.{unreached}
use Rattle.static_rules.proofs.closing.close.Goals as goal

-- no game reaches a query for which a line is given
line-unreached : (q : Asked) (o : Option RuleLine) (P : Type 0) → MatchOption o P (λ rule. Supports q rule) → IfSome o (λ rule. (g : List Move) → Reaches g q → ⊥)
line-unreached q None P none = tt
line-unreached q (Some rule) P here = unreached q rule here

pub returns-clause-unreached : goal.returns-clause-unreached
returns-clause-unreached c = line-unreached c.args.query.now c.any_line.result _ c.any_line.ensures
