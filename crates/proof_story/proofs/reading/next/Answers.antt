use Rattle.std.proofs.Common.{sym, ◌∙◌}
use Rattle.proof_story.specs.Story.{next}
use Rattle.proof_story.proofs.Looks.{next-chosen, next-nowhere, next-referred, next-spent}
use Rattle.proof_story.proofs.reading.next.Goals as goal

pub returns-in-Some : goal.returns-in-Some
returns-in-Some c =
    next-chosen c.args.story.now c.loop.counter c.loop.at c.args.u.now (next c.args.story.now c.args.i c.args.u.now) c.in-Some.k c.loop-test.true (sym (rw c.below.ensures at c.chosen.ensures) ∙ c.in-Some.is) c.loop.invariant

pub returns-in-None-reference : goal.returns-in-None-reference
returns-in-None-reference c =
    next-nowhere c.args.story.now c.loop.counter c.loop.at c.args.u.now (next c.args.story.now c.args.i c.args.u.now) c.loop-test.true (sym (rw c.below.ensures at c.chosen.ensures) ∙ c.in-None.is) (sym c.reference.ensures ∙ c.in-None-reference.is) c.loop.invariant

pub loop-preserved : goal.loop-preserved
loop-preserved c =
    next-referred c.args.story.now c.loop.counter c.loop.at c.in-Some-reference.j c.args.u.now (next c.args.story.now c.args.i c.args.u.now) c.loop-test.true (sym (rw c.below.ensures at c.chosen.ensures) ∙ c.in-None.is) (sym c.reference.ensures ∙ c.in-Some-reference.is) c.loop.invariant

pub returns : goal.returns
returns c = next-spent c.args.story.now c.loop.counter c.loop.at c.args.u.now (next c.args.story.now c.args.i c.args.u.now) c.loop-test.false c.loop.invariant
