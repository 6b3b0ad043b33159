use Rattle.std.proofs.Common.{subst}
use Rattle.std.specs.Prelude.{IsTrue, false}
use Rattle.std.proofs.lemmas.Bool.{both_ways}
use Rattle.query_base.specs.Asked.{Asked}
use Rattle.sketch_found.specs.Beginning.{CanBegin}
use Rattle.sketch_found.specs.Plain.{IsPlain}
use Rattle.sketch_search.proofs.Plainness.{array-unplain, plain-stepless}
use Rattle.sketch_search.proofs.beginnings.first_look.Goals as goal

pub returns-in-Some : goal.returns-in-Some
returns-in-Some c =
    let S = c.args.sketch.now in
    subst (λ (q : Asked). CanBegin q.odds S → IsPlain q.odds q.held S → IsTrue c.may_be_stepless.result) c.query.view_is
    (λ can plain. plain-stepless c.query.inside.odds c.query.inside.held S c.in-Some.wide c.may_be_stepless.result can
    (λ void. both_ways c.is_void.result c.if-is_void.false (c.is_void.ensures.exact.1 void)) c.in-Some.ensures.0 c.may_be_stepless.ensures plain)

pub returns-in-None : goal.returns-in-None
returns-in-None c =
    let S = c.args.sketch.now in
    subst (λ (q : Asked). CanBegin q.odds S → IsPlain q.odds q.held S → IsTrue false) c.query.view_is
    (λ can plain. absurd (array-unplain c.query.inside.odds c.query.inside.held S c.in-None.ensures.0 can
    (λ void. both_ways c.is_void.result c.if-is_void.false (c.is_void.ensures.exact.1 void)) c.in-None.ensures.1 c.in-None.ensures.2 plain))
