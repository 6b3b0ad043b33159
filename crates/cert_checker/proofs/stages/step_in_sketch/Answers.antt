use Rattle.std.proofs.Common.{◌≡◌, ◌∙◌, List, ℕ, map, reverse, ap, sym, subst}
use Rattle.cert_text.specs.Due.{sketch_due}
use Rattle.cert_checker.specs.Counting.{AreCounts}
use Rattle.cert_checker.specs.Framing.{due_of, stopped_by}
use Rattle.cert_checker.specs.Stages.{nodes}
use Rattle.cert_checker.proofs.Counted.{counts_reversed, counts_stack}
use Rattle.cert_checker.proofs.stages.step_in_sketch.Goals as goal

pub returns-in-Some-clause-stage : goal.returns-in-Some-clause-stage
returns-in-Some-clause-stage c = λ k n.
    let same : reverse c.count_frames.new.counts.items ≡ map due_of (reverse c.args.frames.now.items) = ap reverse (c.count_frames.ensures ∙ ap (map due_of) c.as_slice.ensures.value) ∙ counts_reversed c.args.frames.now.items in
    rw c.in-Some.is (ap (λ (due : List ℕ). nodes c.args.claim c.args.query (stopped_by c.in-Some.found) (sketch_due k.reading due)) same)

pub returns-in-Some-clause-ready : goal.returns-in-Some-clause-ready
returns-in-Some-clause-ready c = λ k reading.
    let same : reverse c.count_frames.new.counts.items ≡ map due_of (reverse c.args.frames.now.items) = ap reverse (c.count_frames.ensures ∙ ap (map due_of) c.as_slice.ensures.value) ∙ counts_reversed c.args.frames.now.items in
    (subst AreCounts (sym same) (counts_stack (reverse c.args.frames.now.items) c.requires), reading.few)
