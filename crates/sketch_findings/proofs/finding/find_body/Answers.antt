use Rattle.std.proofs.Common.{◌≤◌, refl}
use Rattle.sketch_body.specs.Bodies.{units_of}
use Rattle.cert_checker.specs.Sketches.{IsSketchOf}
use Rattle.sketch_findings.specs.Bodies.{IsBodyOf, IsPlainBody}
use Rattle.sketch_findings.specs.Plain.{HasPlainSketch}
use Rattle.sketch_findings.proofs.PlainBodies.{plain-units}
use Rattle.sketch_findings.proofs.Supporting.{if-always, if-found, supporting}
use Rattle.sketch_findings.proofs.finding.find_body.Goals as goal

pub returns-in-Some-clause-supports : goal.returns-in-Some-clause-supports
returns-in-Some-clause-supports c =
    let proof = rw c.in-Some.is at c.in_ok-found.ensures.proves in
    let root = rw c.in-Some.is at c.in_ok-found.ensures.root in
    if-found c.body_of.result (λ b. IsBodyOf b c.in-Some.found) (λ b. IsSketchOf b c.args.query.now) (λ b is. supporting b c.args.query.now c.in-Some.found is proof (root refl)) c.body_of.ensures.body

pub returns-in-Some-clause-plain : goal.returns-in-Some-clause-plain
returns-in-Some-clause-plain c =
    let plain = rw c.in-Some.is at c.in_ok-found.ensures.plain in
    if-always c.body_of.result (HasPlainSketch c.args.query.now) IsPlainBody (λ b. units_of b ≤ 33) (λ has. c.body_of.ensures.plain (plain has.root has.plain)) plain-units
