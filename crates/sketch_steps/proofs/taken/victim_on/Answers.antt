use Rattle.std.proofs.Common.{◌*◌, ◌+◌, refl, ap, ◌∙◌}
use Rattle.figures.specs.Figures.{Figure}
use Rattle.figures.specs.Steps.{victim_on}
use Rattle.sketch_steps.proofs.Before.{victim-made}
use Rattle.sketch_steps.proofs.taken.victim_on.Goals as goal

pub returns : goal.returns
returns c = victim-made (record { colour = c.figure.inside.colour; kinds = c.figure.inside.kinds; squares = c.figure.inside.squares; marked = c.figure.inside.marked; place = c.figure.inside.place }) c.args.kind c.args.s c.other.result c.one.result c.only_on.result (2 * c.figure.inside.place + 1) c.other.ensures c.one.ensures c.only_on.ensures refl ∙ ap (λ (f : Figure). victim_on f c.args.kind c.args.s) c.figure.view_is
