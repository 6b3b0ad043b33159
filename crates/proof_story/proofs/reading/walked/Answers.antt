use Rattle.std.proofs.Common.{sym, ◌∙◌, arith}
use Rattle.std.proofs.lemmas.Option.{slice_get_past}
use Rattle.proof_story.specs.Story.{walk}
use Rattle.proof_story.proofs.Looks.{walk-ended, walk-on, walk-stops}
use Rattle.proof_story.proofs.reading.walked.Goals as goal

pub returns-in-None-next : goal.returns-in-None-next
returns-in-None-next c =
    walk-stops c.args.story.now c.args.path.now c.loop-k.k c.loop-k.at c.in-Some.u (walk c.args.story.now 0 c.args.path.now) (sym c.get.ensures ∙ c.in-Some.is) (sym c.next.ensures ∙ c.in-None-next.is) c.loop-k.invariant

pub loop-k-preserved : goal.loop-k-preserved
loop-k-preserved c =
    walk-on c.args.story.now c.args.path.now c.loop-k.k c.loop-k.at c.in-Some-next.j c.in-Some.u (walk c.args.story.now 0 c.args.path.now) (sym c.get.ensures ∙ c.in-Some.is) (sym c.next.ensures ∙ c.in-Some-next.is) c.loop-k.invariant
