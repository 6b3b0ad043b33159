use Rattle.std.proofs.Common.{ap, ◌∙◌}
use Rattle.sketch_list.specs.Listed.{Listed, is_passed, kind_taken}
use Rattle.sketch_walk.proofs.Making.{step-made}
use Rattle.sketch_walk.proofs.places.step_for.Goals as goal

pub returns-clause-value : goal.returns-clause-value
returns-clause-value c =
    ap (λ (y : Listed). record { by = y.by; from = y.from; to = y.to; taken = c.kind_taken.result; passing = c.is_passed.result; place = c.place_before.result }) c.step.view_is
    ∙ step-made c.args.sketch.now c.args.figure.now c.args.step.now c.kind_taken.result c.is_passed.result c.place_before.result
    (c.kind_taken.ensures ∙ ap (λ (y : Listed). kind_taken y.victim) c.step.view_is)
    (c.is_passed.ensures ∙ ap (λ (y : Listed). is_passed y.victim) c.step.view_is) c.place_before.ensures.value
