use Rattle.std.proofs.Common.{subst, take, List}
use Rattle.std.specs.List.{All}
use Rattle.std.proofs.lemmas.List.{take_all}
use Rattle.std.proofs.lemmas.List.Elements.{All-more}
use Rattle.proof_story.specs.Reading.{IsUnmixed}
use Rattle.proof_story.specs.declared.stories.Way.{Way}
use Rattle.proof_story.proofs.checking.are_unmixed.Goals as goal

pub loop-way-preserved : goal.loop-way-preserved
loop-way-preserved c =
    All-more (IsUnmixed c.args.board.now) c.args.ways.now c.loop-way.way-index c.way-item.result c.loop-way-test.true c.loop-way.invariant
    (subst (λ (x : Way). (IsUnmixed c.args.board.now) x) c.way-item.is (c.is_unmixed.ensures c.if-not-is_unmixed.false))

pub returns : goal.returns
returns c = λ yes. subst (λ (l : List Way). All (IsUnmixed c.args.board.now) l) (take_all c.loop-way.way-index c.args.ways.now c.loop-way-test.false) c.loop-way.invariant
