use Rattle.std.proofs.Common.{subst, take, List}
use Rattle.std.specs.List.{All}
use Rattle.std.proofs.lemmas.List.{take_all}
use Rattle.std.proofs.lemmas.List.Elements.{All-more}
use Rattle.proof_story.specs.Reading.{IsTold}
use Rattle.proof_story.specs.declared.stories.Point.{Point}
use Rattle.proof_story.proofs.checking.answers.Goals as goal

pub loop-point-preserved : goal.loop-point-preserved
loop-point-preserved c =
    let told : IsTold c.args.story.now c.point-item.result = c.is_told.ensures c.if-not-is_told.false in
    All-more (IsTold c.args.story.now) c.args.points.now c.loop-point.point-index c.point-item.result c.loop-point-test.true c.loop-point.invariant
    (subst (λ (p : Point). IsTold c.args.story.now p) c.point-item.is told)

pub returns : goal.returns
returns c = λ yes. subst (λ (l : List Point). All (IsTold c.args.story.now) l) (take_all c.loop-point.point-index c.args.points.now c.loop-point-test.false) c.loop-point.invariant
