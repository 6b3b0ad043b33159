use Rattle.std.proofs.Common.{sym, ◌∙◌}
use Rattle.std.proofs.lemmas.Bool.{both_ways}
use Rattle.sketch_checker.specs.LineWalk.{ended}
use Rattle.sketch_checker.proofs.Settling.{ended-left, ended-open, ended-step, stops-at}
use Rattle.sketch_checker.proofs.Steering.{frames-able, frames-left, frames-step}
use Rattle.sketch_checker.proofs.frames.settle.Goals as goal

pub closed-preserved : goal.closed-preserved
closed-preserved c = record {
  walk = λ g lines.
      let step = frames-step g lines c.closed.frames c.pop.new.self c.in-Some.frame c.in-Some.ensures (λ open_. both_ways c.is_open.result c.closed-test.true (c.is_open.ensures.1 open_)) c.in-Ok.ensures.done c.len.ensures.few in
      let before = c.closed.invariant.walk g lines in
      (λ it. before.0 (step.0 it), λ it. step.1 (before.1 it));
  able = λ o it. frames-able o c.closed.frames c.pop.new.self c.in-Some.frame c.in-Some.ensures (c.closed.invariant.able o it);
  still = ended-step c.closed.frames c.pop.new.self c.in-Some.frame c.in-Some.ensures (λ open_. both_ways c.is_open.result c.closed-test.true (c.is_open.ensures.1 open_)) c.in-Ok.ensures.done ∙ c.closed.invariant.still;
}

pub returns-in-Err-clause-refused : goal.returns-in-Err-clause-refused
returns-in-Err-clause-refused c = λ g lines it.
    frames-left g lines c.closed.frames c.pop.new.self c.in-Some.frame c.in-Some.ensures (λ open_. both_ways c.is_open.result c.closed-test.true (c.is_open.ensures.1 open_)) c.in-Err.ensures.fault.1 ((c.closed.invariant.walk g lines).1 it)

pub returns-in-Err-clause-ended : goal.returns-in-Err-clause-ended
returns-in-Err-clause-ended c =
    let left = ended-left c.closed.frames c.pop.new.self c.in-Some.frame c.in-Some.ensures (λ open_. both_ways c.is_open.result c.closed-test.true (c.is_open.ensures.1 open_)) c.in-Err.ensures.fault.1 in
    stops-at c.in-Err.fault c.in-Some.frame.line (ended c.args.frames.now) c.in-Err.ensures.fault.0 (sym c.closed.invariant.still ∙ left)

pub returns-clause-ended : goal.returns-clause-ended
returns-clause-ended c = sym (ended-open c.closed.frames (c.is_open.ensures.0 c.closed-test.false)) ∙ c.closed.invariant.still
