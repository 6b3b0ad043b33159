use Rattle.std.proofs.Common.{◌≤◌, length, refl, ◌∙◌, subst, arith}
use Rattle.std.specs.Prelude.{Option}
use Rattle.sketch_list.specs.Listed.{Earlier}
use Rattle.sketch_walk.specs.Walks.{Finding, left_of}
use Rattle.sketch_walk.proofs.Advancing.{all-walked}
use Rattle.sketch_walk.proofs.walking.first_from.Goals as goal

pub places-init : goal.places-init
places-init c = record { inside = c.requires.inside; left = λ o are. refl }

pub places-preserved : goal.places-preserved
places-preserved c = record {
  inside = c.look_from-found.ensures.inside;
  left = λ o are. c.places.invariant.left o are ∙ subst (λ (r : Option Earlier). Finding (left_of o c.args.exact.now c.args.sketch.now c.places.cursor) r (left_of o c.args.exact.now c.args.sketch.now c.look_from-found.result.next)) c.in-None.is (c.look_from-found.ensures.found o are);
}

pub returns-in-Some-clause-found : goal.returns-in-Some-clause-found
returns-in-Some-clause-found c = λ o are.
    c.places.invariant.left o are ∙ subst (λ (r : Option Earlier). Finding (left_of o c.args.exact.now c.args.sketch.now c.places.cursor) r (left_of o c.args.exact.now c.args.sketch.now c.look_from-found.result.next)) c.in-Some.is (c.look_from-found.ensures.found o are)

pub returns-clause-found : goal.returns-clause-found
returns-clause-found c = λ o are.
    let past : length c.args.sketch.now ≤ c.places.cursor.by = omega (arith, c.len.ensures.value) in
    (c.places.invariant.left o are ∙ all-walked o c.args.exact.now c.args.sketch.now c.places.cursor past, all-walked o c.args.exact.now c.args.sketch.now c.places.cursor past)
