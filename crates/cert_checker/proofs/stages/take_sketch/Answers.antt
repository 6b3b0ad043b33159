use Rattle.std.proofs.Common.{◌≡◌, ◌+◌, ◌∙◌, ap, map, reverse, sym, subst}
use Rattle.cert_checker.specs.Counting.{AreCounts}
use Rattle.cert_checker.specs.Framing.{due_of}
use Rattle.cert_checker.proofs.Counted.{counts_reversed, counts_stack}
use Rattle.cert_checker.proofs.SketchRests.{fault_rest, on_rest, over_rest}
use Rattle.cert_checker.proofs.stages.take_sketch.Goals as goal

pub step_skipping-requires-clause-counts : goal.step_skipping-requires-clause-counts
step_skipping-requires-clause-counts c =
    let same : reverse c.count_frames.new.counts.items ≡ map due_of (reverse c.args.frames.now.items) = ap reverse (c.count_frames.ensures ∙ ap (map due_of) c.as_slice.ensures.value) ∙ counts_reversed c.args.frames.now.items in
    subst AreCounts (sym same) (counts_stack (reverse c.args.frames.now.items) c.requires.stack)

pub returns-in-Some-fault-clause-rest : goal.returns-in-Some-fault-clause-rest
returns-in-Some-fault-clause-rest c = λ lines a rest.
    let same : reverse c.count_frames.new.counts.items ≡ map due_of (reverse c.args.frames.now.items) = ap reverse (c.count_frames.ensures ∙ ap (map due_of) c.as_slice.ensures.value) ∙ counts_reversed c.args.frames.now.items in
    fault_rest c.args.sketching.now c.take.new.self c.in-Some-fault.found c.args.claim.now c.args.query.now (reverse c.args.frames.now.items) (reverse c.count_frames.new.counts.items) (map due_of (reverse c.args.frames.now.items)) c.args.number c.args.line.now lines a c.requires.reading
    (rw c.in-Some-fault.is at (rw c.in-Some.is at c.take.ensures.takes)) same (c.step_skipping.ensures.rest (reverse c.args.frames.now.items) (c.args.number + 1) lines a rest)

pub returns-then-not-is_over-clause-rest : goal.returns-then-not-is_over-clause-rest
returns-then-not-is_over-clause-rest c = λ lines a rest.
    on_rest c.args.sketching.now c.take.new.self c.args.claim.now c.args.query.now (reverse c.args.frames.now.items) (map due_of (reverse c.args.frames.now.items)) c.args.number c.args.line.now lines a c.requires.reading
    (rw c.in_default-fault.is at (rw c.in-Some.is at c.take.ensures.takes)) (sym c.is_over.ensures ∙ c.if-not-is_over.true) rest

pub returns-clause-rest : goal.returns-clause-rest
returns-clause-rest c = λ lines a rest.
    over_rest c.args.sketching.now c.take.new.self c.args.claim.now c.args.query.now (reverse c.args.frames.now.items) (map due_of (reverse c.args.frames.now.items)) c.close.new.self.units c.args.number c.args.line.now lines a c.requires.reading
    (rw c.in_default-fault.is at (rw c.in-Some.is at c.take.ensures.takes)) (sym c.is_over.ensures ∙ c.if-not-is_over.false) c.close.ensures (c.step_after.ensures.rest c.close.new.self (c.args.number + 1) lines a rest)
