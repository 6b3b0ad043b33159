use Rattle.std.proofs.Common.{ap, ◌∙◌}
use Rattle.figures.specs.Figures.{Figure}
use Rattle.figures.specs.Steps.{Step}
use Rattle.sketch_sets.specs.Files.{has_all_room}
use Rattle.sketch_steps.proofs.Telling.{keeps-made}
use Rattle.sketch_steps.proofs.stepping.keeps.Goals as goal

pub returns : goal.returns
returns c = keeps-made c.args.sketch.now c.args.figure.now c.args.step.now c.takes_nobody.result c.step.inside.passing c.all_leave_room-room.result c.step.inside.place c.figure.inside.place c.takes_nobody.ensures (ap (λ (x : Step). x.passing) c.step.view_is) (ap (λ (x : Step). x.place) c.step.view_is) (ap (λ (f : Figure). f.place) c.figure.view_is) (c.all_leave_room-room.ensures ∙ ap (λ (x : Step). has_all_room c.args.sketch.now c.args.figure.now x.from) c.step.view_is)
