use Rattle.std.proofs.lemmas.Bool.{both_ways}
use Rattle.position_report.proofs.Lasting.{lone-first}
use Rattle.position_report.proofs.last_moves.lone_step.Goals as goal

pub returns-then-is_lone : goal.returns-then-is_lone
returns-then-is_lone c = rw c.get.ensures (lone-first c.args.query.now c.args.left.now (c.is_lone.ensures.0 c.if-is_lone.true))

pub returns-else-is_lone : goal.returns-else-is_lone
returns-else-is_lone c = λ lone. both_ways _ c.if-is_lone.false (c.is_lone.ensures.1 lone)
