use Rattle.std.proofs.Common.{◌*◌, ◌+◌, refl, ap, ◌∙◌}
use Rattle.sketch_steps.specs.Cleared.{bystander_with}
use Rattle.sketch_steps.proofs.Before.{bystander-made}
use Rattle.sketch_steps.proofs.taken.bystander.Goals as goal

pub returns : goal.returns
returns c = bystander-made c.args.kept (record { colour = c.figure.inside.colour; kinds = c.figure.inside.kinds; squares = c.figure.inside.squares; marked = c.figure.inside.marked; place = c.figure.inside.place }) c.both.result (2 * c.figure.inside.place + 1) c.both.ensures refl ∙ ap (bystander_with c.args.kept) c.figure.view_is
