use Rattle.std.proofs.Common.{◌*◌, ap, ◌∙◌}
use Rattle.figures.specs.Figures.{only_on}
use Rattle.figures.specs.Steps.{Step}
use Rattle.sketch_steps.specs.Cleared.{pawn_of}
use Rattle.sketch_steps.proofs.Before.{pawn-made}
use Rattle.sketch_steps.proofs.taken.pawn_before.Goals as goal

pub returns : goal.returns
returns c = pawn-made c.args.step.now (record { colour = c.figure.inside.colour; kinds = c.figure.inside.kinds; squares = c.figure.inside.squares; marked = c.figure.inside.marked; place = c.figure.inside.place }) c.one.result c.only_on.result (2 * c.step.inside.place) c.one.ensures (c.only_on.ensures ∙ ap (λ (x : Step). only_on x.from) c.step.view_is) (ap (λ (x : Step). 2 * x.place) c.step.view_is) ∙ ap (pawn_of c.args.step.now) c.figure.view_is
