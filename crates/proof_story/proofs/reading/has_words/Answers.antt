use Rattle.std.proofs.Common.{sym, ◌∙◌}
use Rattle.proof_story.specs.Story.{words_at}
use Rattle.proof_story.proofs.Looks.{words-here, words-referred}
use Rattle.proof_story.proofs.reading.has_words.Goals as goal

pub returns-in-None : goal.returns-in-None
returns-in-None c = λ said.
    sym (words-here c.args.story.now c.loop.counter c.loop.at (words_at c.args.story.now c.args.i) c.loop-test.true (sym c.reference.ensures ∙ c.in-None.is) c.loop.invariant)
    ∙ c.is_worded.ensures said

pub loop-preserved : goal.loop-preserved
loop-preserved c =
    words-referred c.args.story.now c.loop.counter c.loop.at c.in-Some.j (words_at c.args.story.now c.args.i) c.loop-test.true (sym c.reference.ensures ∙ c.in-Some.is) c.loop.invariant
