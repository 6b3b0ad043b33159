use Rattle.length_bound.proofs.Shown.{answer-least}
use Rattle.length_bound.proofs.lengths.length_of.Goals as goal

pub returns-clause-least : goal.returns-clause-least
returns-clause-least c = answer-least c.args.query.now c.args.side c.args.p.now.u c.args.p.now.v c.length_shown.result c.length_shown.ensures.value
