use Rattle.std.proofs.Common.{ap, ◌∙◌}
use Rattle.figures.specs.Steps.{Step}
use Rattle.sketch_steps.specs.Cleared.{clears}
use Rattle.sketch_steps.proofs.Before.{clear-made}
use Rattle.sketch_steps.proofs.taken.clears.Goals as goal

pub returns : goal.returns
returns c = clear-made c.args.colour (record { by = c.step.inside.by; from = c.step.inside.from; to = c.step.inside.to; taken = c.step.inside.taken; passing = c.step.inside.passing; place = c.step.inside.place }) c.args.s c.index-n.result c.index.result c.index-2.result c.ranks_between.result c.on_the_way.result c.behind.result c.ahead.result c.index-n.ensures.number c.index.ensures.number c.index-2.ensures.number c.ranks_between.ensures.value c.on_the_way.ensures c.behind.ensures c.ahead.ensures ∙ ap (λ (x : Step). clears c.args.colour x c.args.s) c.step.view_is
