use Rattle.std.proofs.Common.{sym, ◌∙◌, arith}
use Rattle.retraction_bars.specs.Grounds.{bars_all}
use Rattle.retraction_bars.proofs.Found.{find_step, find_stop, find_end}
use Rattle.retraction_bars.proofs.grounds.first_of.Goals as goal

pub returns-then-bars_all : goal.returns-then-bars_all
returns-then-bars_all c =
    find_stop (bars_all c.args.query.now c.args.ways.now c.args.scope.now) c.loop-n.n c.args.high _ c.loop-n-test.true (sym c.bars_all.ensures ∙ c.if-bars_all.true) c.loop-n.invariant

pub loop-n-preserved : goal.loop-n-preserved
loop-n-preserved c =
    find_step (bars_all c.args.query.now c.args.ways.now c.args.scope.now) c.loop-n.n c.args.high _ c.loop-n-test.true (sym c.bars_all.ensures ∙ c.if-bars_all.false) c.loop-n.invariant

pub returns : goal.returns
returns c = find_end (bars_all c.args.query.now c.args.ways.now c.args.scope.now) c.loop-n.n c.args.high _ (omega arith) c.loop-n.invariant
