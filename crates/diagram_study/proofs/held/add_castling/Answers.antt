use Rattle.std.proofs.Common.{refl}
use Rattle.diagram_study.proofs.held.add_castling.Goals as goal

pub returns : goal.returns
returns c = (
  record { castle = c.args.castle; lines = c.in_ok-lines.lines },
  refl,
  record { told = c.in_ok-lines.ensures.told; true_ = c.in_ok-lines.ensures.true_ },
  c.in_ok-push.ensures.items,
)
