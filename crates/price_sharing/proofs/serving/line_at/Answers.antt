use Rattle.price_sharing.proofs.Repriced.{line_there}
use Rattle.price_sharing.proofs.serving.line_at.Goals as goal

pub returns : goal.returns
returns c = line_there c.args.kids.now c.args.place _ _ c.in_ok-line.line c.in_ok-kid.ensures.kid c.in_ok-line.ensures
