use Rattle.std.proofs.Common.{◌+◌, reverse}
use Rattle.cert_checker.specs.Staging.{taken}
use Rattle.cert_checker.proofs.stages.take_node.Goals as goal

pub returns-clause-rest : goal.returns-clause-rest
returns-clause-rest c = λ lines a rest. (
  taken c.take_line-node.result c.take_line-node.new.sketching c.args.claim.now c.args.query.now (reverse c.take_line-node.new.frames.items) c.args.number,
  c.take_line-node.ensures.stage c.args.claim.now c.args.query.now,
  c.step_after.ensures.rest c.take_line-node.new.sketching (c.args.number + 1) lines a rest,
)
