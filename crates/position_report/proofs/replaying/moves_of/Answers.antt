use Rattle.std.proofs.Common.{sym, ◌∙◌, arith}
use Rattle.position_report.proofs.Playing.{copied-more}
use Rattle.position_report.proofs.replaying.moves_of.Goals as goal

pub loop-i-preserved : goal.loop-i-preserved
loop-i-preserved c =
    copied-more c.args.game.now c.loop-i.moves.items _ c.loop-i.i c.unwrap.result (omega (arith, c.loop-i-test.true, c.len-i-end.ensures)) c.loop-i.invariant (sym c.get.ensures ∙ c.unwrap.ensures) c.in_ok-push.ensures.items
