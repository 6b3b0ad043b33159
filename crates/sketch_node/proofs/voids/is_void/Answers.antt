use Rattle.std.proofs.Common.{◌≡◌, Bool, List, sym, subst}
use Rattle.std.proofs.lemmas.Bool.{both_ways, false_from_ne_true, not-true, not_from_false}
use Rattle.sketch_account.specs.Closes.{foreign}
use Rattle.sketch_account.specs.Frozen.{AreBegun}
use Rattle.sketch_node.proofs.voids.is_void.Goals as goal

pub returns-clause-exact : goal.returns-clause-exact
returns-clause-exact c =
    let begun : Bool = c.are_begun.result in (
      λ h it. both_ways begun (not-true begun h) (c.are_begun.ensures.1 (subst (AreBegun c.args.odds c.args.sketch.now) (sym c.greatest_frozen.ensures.value) it)),
      λ none. not_from_false begun (false_from_ne_true begun (λ h. none (subst (AreBegun c.args.odds c.args.sketch.now) c.greatest_frozen.ensures.value (c.are_begun.ensures.0 h)))),
    )

pub returns-clause-sound : goal.returns-clause-sound
returns-clause-sound c = λ h. foreign c.greatest_frozen.result c.greatest_frozen.ensures.frozen (λ it. both_ways c.are_begun.result (not-true c.are_begun.result h) (c.are_begun.ensures.1 it))
