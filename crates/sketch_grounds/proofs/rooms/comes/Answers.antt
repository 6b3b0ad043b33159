use Rattle.std.proofs.Common.{◌≡◌, List, Bool, ap, ◌∙◌, arith}
use Rattle.cage_rules.specs.Sets.{squares_that}
use Rattle.cage_rules.specs.Steps.{is_step}
use Rattle.cage_rules.specs.SetSteps.{both, outside}
use Rattle.sketch_grounds.specs.Paces.{is_barred}
use Rattle.sketch_grounds.proofs.Pruning.{comes-made}
use Rattle.sketch_grounds.proofs.rooms.comes.Goals as goal

pub returns : goal.returns
returns c =
    let made : c.both-from.result ≡ both (both c.args.within (squares_that (is_step c.args.kind c.args.u))) (outside c.barred_from.result) = cc in
    comes-made c.args.kind c.args.zones.now c.args.within c.barred_from.result c.both-from.result c.args.u c.next_from.result made
    (λ t inside. c.barred_from.ensures t inside ∙ ap (λ (zs : List (List Bool)). is_barred zs t c.args.u) (c.as_slice.ensures.value ∙ c.zones.view_is))
    (λ s low. c.next_from.ensures.none s (omega arith) low) c.next_from.ensures.found
