use Rattle.std.proofs.Common.{rules, arith}
use Rattle.length_bound.proofs.LeastWay.{least-first, least-next, least-end}
use Rattle.length_bound.proofs.costs.promoted_way.Goals as goal

pub loop-file-init : goal.loop-file-init
loop-file-init c = least-first c.args.side c.args.kind c.args.home c.args.s

pub loop-file-preserved : goal.loop-file-preserved
loop-file-preserved c =
    least-next c.args.side c.args.kind c.args.home c.args.s c.loop-file.file c.loop-file.least _ c.loop-file.invariant c.loop-file-test.true (search rules)

pub returns-clause-value : goal.returns-clause-value
returns-clause-value c = least-end c.args.side c.args.kind c.args.home c.args.s c.loop-file.file c.loop-file.least c.loop-file.invariant (omega arith)

pub returns-clause-small : goal.returns-clause-small
returns-clause-small c = c.loop-file.invariant.small
