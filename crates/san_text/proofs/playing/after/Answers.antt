use Rattle.san_text.proofs.Written.{next_is}
use Rattle.san_text.proofs.playing.after.Goals as goal

pub returns-in-Ok : goal.returns-in-Ok
returns-in-Ok c = next_is c.args.state.now c.args.m.now c.in-Ok.next c.in-Ok.ensures.here.1
