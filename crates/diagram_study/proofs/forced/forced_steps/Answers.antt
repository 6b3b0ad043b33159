use Rattle.std.proofs.Common.{refl, arith}
use Rattle.diagram_study.proofs.Forcing.{forced_end, forced_full, forced_listed_here, forced_none, next_is, so_far_more}
use Rattle.diagram_study.proofs.forced.forced_steps.Goals as goal

pub loop-step-init : goal.loop-step-init
loop-step-init c = record {
  so_far = forced_none c.args.subject.now.query c.args.subject.now.query c.args.subject.now.limits.depth c.args.subject.now.limits.nodes _ refl c.new-steps.ensures.items;
  next = c.requires.first;
}

pub pred-here-requires : goal.pred-here-requires
pred-here-requires c =
    let next = rw c.in-Some.is at c.loop-step.invariant.next in
    forced_listed_here c.loop-step.here c.args.subject.now.limits.depth c.args.subject.now.limits.nodes c.in-Some.u next.0

pub loop-step-preserved : goal.loop-step-preserved
loop-step-preserved c =
    let next = rw c.in-Some.is at c.loop-step.invariant.next in
    record {
      so_far = so_far_more c.args.subject.now.query c.args.subject.now.limits.depth c.args.subject.now.limits.nodes c.loop-step.steps.items c.push.new.self.items c.loop-step.here c.pred-here.result c.in-Some.u c.loop-step.invariant.so_far next.0 next.1 c.in_ok-push.ensures.items (λ full. c.if-len-eq-MOST_STEPS.false (omega (arith, c.len.ensures, c.push.new.self.ok, full))) c.pred-here.ensures;
      next = next_is c.pred-here.result c.args.subject.now.limits.depth c.args.subject.now.limits.nodes c.in_ok-next.next.left c.in_ok-step.step c.in_ok-next.ensures.texts c.in_ok-step.ensures;
    }

pub returns-then-len-eq-MOST_STEPS-clause-forced : goal.returns-then-len-eq-MOST_STEPS-clause-forced
returns-then-len-eq-MOST_STEPS-clause-forced c =
    let next = rw c.in-Some.is at c.loop-step.invariant.next in
    forced_full c.args.subject.now.query c.args.subject.now.limits.depth c.args.subject.now.limits.nodes c.loop-step.steps.items c.push.new.self.items c.loop-step.here c.in-Some.u c.loop-step.invariant.so_far next.0 c.in_ok-push.ensures.items (omega (arith, c.len.ensures, c.push.new.self.ok, c.if-len-eq-MOST_STEPS.true))

pub returns-clause-forced : goal.returns-clause-forced
returns-clause-forced c = forced_end c.args.subject.now.query c.args.subject.now.limits.depth c.args.subject.now.limits.nodes c.loop-step.steps.items c.loop-step.here c.loop-step.invariant.so_far (rw c.in_default.is at c.loop-step.invariant.next)
