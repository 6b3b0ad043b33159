use Rattle.std.proofs.Common.{sym, ◌∙◌, refl}
use Rattle.unmove_gen.specs.Listed.{mover}
use Rattle.retraction_bars.specs.Bars.{gives_check}
use Rattle.retraction_bars.specs.Pairs.{checker_from}
use Rattle.retraction_bars.proofs.Found.{find_step}
use Rattle.retraction_bars.proofs.pairs.checker_from.Goals as goal

pub loop-n-init : goal.loop-n-init
unfolding checker_from
loop-n-init c = refl

pub loop-n-preserved : goal.loop-n-preserved
loop-n-preserved c =
    find_step (gives_check c.args.query.now.board (mover c.args.query.now)) c.loop-n.n 64 _ c.loop-n-test.true (rw c.known.ensures at (sym c.checks_from.ensures ∙ c.if-checks_from.false)) c.loop-n.invariant
