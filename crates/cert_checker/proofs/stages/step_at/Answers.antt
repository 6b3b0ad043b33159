use Rattle.std.proofs.Common.{◌≡◌, ◌∙◌, List, ℕ, map, reverse, ap, sym, subst}
use Rattle.cert_text.specs.Due.{nodes_due}
use Rattle.cert_checker.specs.Counting.{AreCounts, IsDue}
use Rattle.cert_checker.specs.Framing.{due_of, stopped_by}
use Rattle.cert_checker.specs.Stages.{nodes}
use Rattle.cert_checker.proofs.Counted.{counts_reversed, counts_stack, due_open}
use Rattle.cert_checker.proofs.stages.step_at.Goals as goal

pub returns-in-Some-clause-stage : goal.returns-in-Some-clause-stage
returns-in-Some-clause-stage c = λ k.
    let same : reverse c.count_frames.new.counts.items ≡ map due_of (reverse c.args.frames.now.items) = ap reverse (c.count_frames.ensures ∙ ap (map due_of) c.as_slice.ensures.value) ∙ counts_reversed c.args.frames.now.items in
    rw c.in-Some.is (ap (λ (due : List ℕ). nodes c.args.claim c.args.query (stopped_by c.in-Some.found) (nodes_due k.units due)) same)

pub returns-in-Some-clause-ready : goal.returns-in-Some-clause-ready
returns-in-Some-clause-ready c = λ k.
    let same : reverse c.count_frames.new.counts.items ≡ map due_of (reverse c.args.frames.now.items) = ap reverse (c.count_frames.ensures ∙ ap (map due_of) c.as_slice.ensures.value) ∙ counts_reversed c.args.frames.now.items in (
      subst AreCounts (sym same) (counts_stack (reverse c.args.frames.now.items) c.requires.stack),
      subst IsDue (sym same) (due_open (reverse c.args.frames.now.items) c.requires.open),
    )
