use Rattle.std.proofs.Common.{refl, subst}
use Rattle.std.specs.Prelude.{IsTrue, MatchOption, Option}
use Rattle.past_sketches.specs.Figures.{Sketch, sketch_of}
use Rattle.sketch_found.specs.Beginning.{CanBegin}
use Rattle.sketch_found.specs.declared.found.FoundSketch.{FoundSketch}
use Rattle.sketch_found.specs.Plain.{IsPlain, IsPlainNode}
use Rattle.sketch_search.proofs.Plainness.{never-plain}
use Rattle.sketch_search.proofs.finding.find_sketch.Goals as goal

pub returns-in-Some-2-clause-plain : goal.returns-in-Some-2-clause-plain
returns-in-Some-2-clause-plain c = λ root plain.
    let o = c.args.query.now.odds in
    let held = c.args.query.now.held in
    let may = subst (λ (S : Sketch). CanBegin o S → IsPlain o held S → IsTrue c.first_look-may_be_plain.result.may_be_plain) c.in-Some.ensures.value c.first_look-may_be_plain.ensures in
    subst (λ (r : Option FoundSketch). MatchOption r ⊥ IsPlainNode) c.in-Some-2.is (c.in_ok-found.ensures.plain may (c.in-Some.ensures.begins refl) plain)

pub returns-in-None-clause-plain : goal.returns-in-None-clause-plain
returns-in-None-clause-plain c =
    let o = c.args.query.now.odds in
    let held = c.args.query.now.held in
    let S = sketch_of c.args.query.now.board in
    let may = subst (λ (T : Sketch). CanBegin o T → IsPlain o held T → IsTrue c.first_look-may_be_plain.result.may_be_plain) c.in-Some.ensures.value c.first_look-may_be_plain.ensures in
    never-plain c.found_further.result _ (IsPlain o held S)
    (λ plain. subst (λ (r : Option FoundSketch). MatchOption r ⊥ IsPlainNode) c.in-None.is (c.in_ok-found.ensures.plain may (c.in-Some.ensures.begins refl) plain))
