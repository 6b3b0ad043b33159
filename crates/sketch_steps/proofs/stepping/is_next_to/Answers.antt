use Rattle.std.proofs.Common.{ap, ◌∙◌}
use Rattle.figures.specs.Figures.{Figure}
use Rattle.sketch_steps.proofs.Telling.{next-made}
use Rattle.sketch_steps.proofs.stepping.is_next_to.Goals as goal

pub returns : goal.returns
returns c = next-made c.args.figure.now c.args.place c.from.result c.from-2.result c.from.ensures (c.from-2.ensures ∙ ap (λ (f : Figure). f.place) c.figure.view_is)
