use Rattle.std.proofs.Common.{subst, take, List}
use Rattle.std.specs.List.{All}
use Rattle.std.proofs.lemmas.List.{take_all}
use Rattle.std.proofs.lemmas.List.Elements.{All-more}
use Rattle.proof_story.specs.Reading.{TellsCastlings}
use Rattle.proof_story.specs.declared.stories.Paragraph.{Paragraph}
use Rattle.proof_story.proofs.checking.all_tell_castlings.Goals as goal

pub loop-paragraph-preserved : goal.loop-paragraph-preserved
loop-paragraph-preserved c =
    All-more (TellsCastlings) c.args.story.now c.loop-paragraph.paragraph-index c.paragraph-item.result c.loop-paragraph-test.true c.loop-paragraph.invariant
    (subst (λ (x : Paragraph). (TellsCastlings) x) c.paragraph-item.is (c.tells_castlings.ensures c.if-not-tells_castlings.false))

pub returns : goal.returns
returns c = λ yes. subst (λ (l : List Paragraph). All (TellsCastlings) l) (take_all c.loop-paragraph.paragraph-index c.args.story.now c.loop-paragraph-test.false) c.loop-paragraph.invariant
