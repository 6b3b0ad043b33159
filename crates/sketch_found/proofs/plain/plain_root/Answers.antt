use Rattle.std.proofs.Common.{◌∙◌, inl, sym}
use Rattle.std.proofs.lemmas.Bool.{both_ways}
use Rattle.past_sketches.specs.Figures.{sketch_of}
use Rattle.sketch_checker.specs.Beginning.{CanBegin}
use Rattle.sketch_checker.specs.Nodes.{IsVoid}
use Rattle.sketch_text.specs.declared.nodes.End.TheVariants.{Void}
use Rattle.sketch_found.specs.Plain.{IsStepless}
use Rattle.sketch_found.proofs.OneNode.{found-node, found-then}
use Rattle.sketch_found.proofs.plain.plain_root.Goals as goal

pub returns-then-is_some-clause-plain : goal.returns-then-is_some-clause-plain
returns-then-is_some-clause-plain c = λ can so.
    found-node Void c.in_ok-void.void c.in_ok-void.ensures.one (sym c.is_some.ensures ∙ c.if-is_some.true) (λ f one. inl one)

pub returns-clause-plain : goal.returns-clause-plain
returns-clause-plain c =
    let S = sketch_of c.args.query.now.board in
    found-then c.proof_by-2.result (CanBegin c.args.query.now.odds S) (IsVoid c.args.query.now.odds c.args.query.now.held S) (IsStepless c.args.query.now.odds c.args.query.now.held S)
    (λ can void. both_ways c.is_some.result c.if-is_some.false (c.is_some.ensures ∙ c.in_ok-void.ensures.all can void)) c.proof_by-2.ensures.one c.proof_by-2.ensures.all
