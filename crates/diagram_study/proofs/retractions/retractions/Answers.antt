use Rattle.std.proofs.Common.{◌-◌, sym, ◌∙◌}
use Rattle.std.proofs.lemmas.Bool.{both_ways}
use Rattle.claim_findings.specs.Findings.{is_refuted}
use Rattle.diagram_study.proofs.Leaving.{all_left, ends_among, found_before, left_dropped, left_first, left_kept, next_listed}
use Rattle.claim_findings.proofs.OpenFronts.{with_text}
use Rattle.diagram_study.proofs.Looking.{kept_now, looked_all, looked_more, looked_none, widened}
use Rattle.diagram_study.proofs.retractions.retractions.Goals as goal

pub loop-u-init : goal.loop-u-init
loop-u-init c = record {
  so_far = left_first c.args.subject.now.query (c.args.subject.now.limits.depth - 1) c.args.subject.now.limits.nodes c.new-unmoves.result c.new-left.result c.new-unmoves.ensures c.new-left.ensures;
  looked = looked_none c.args.subject.now.query (c.args.subject.now.limits.depth - 1) c.args.subject.now.limits.nodes c.new-unmoves.result c.new-left.result c.new-looked.result.items c.new-unmoves.ensures c.new-looked.ensures.items;
}

pub loop-u-preserved-in-Ok : goal.loop-u-preserved-in-Ok
loop-u-preserved-in-Ok c =
    let there = next_listed c.args.subject.now.query (c.args.subject.now.limits.depth - 1) c.args.subject.now.limits.nodes _ _ _ _ c.in-Some.u c.loop-u.invariant.so_far c.in-Some.ensures in
    let found = found_before c.args.subject.now.query c.pred-before.result c.saturating_sub-below.result (c.args.subject.now.limits.depth - 1) c.args.subject.now.limits.nodes c.in-Some.u c.in_ok-outcome.outcome c.pred-before.ensures c.saturating_sub-below.ensures c.in_ok-outcome.ensures in
    record {
      so_far = left_kept c.args.subject.now.query (c.args.subject.now.limits.depth - 1) c.args.subject.now.limits.nodes c.loop-u.unmoves c.next.new.self c.loop-u.left c.push-then-not-is_refuted.new.self c.loop-u.all c.in-Some.u c.in_ok-outcome.outcome c.loop-u.invariant.so_far c.in-Some.ensures found
          (sym c.is_refuted.ensures ∙ c.if-not-is_refuted.true)
          (with_text c.in-Some.u (c.unmoves_have_texts.ensures.promotion c.args.subject.now.query c.in-Some.u there) (c.unmoves_have_texts.ensures.capture c.args.subject.now.query c.in-Some.u there))
          c.in-Ok.ensures.ok;
      looked = looked_more c.args.subject.now.query (c.args.subject.now.limits.depth - 1) c.args.subject.now.limits.nodes c.loop-u.unmoves c.next.new.self c.loop-u.left c.push-then-not-is_refuted.new.self c.loop-u.looked.items c.push.new.self.items (record { unmove = c.in-Some.u; outcome = c.in_ok-outcome.outcome }) c.loop-u.invariant.looked c.in-Some.ensures found c.in_ok-push.ensures.items
          (widened c.loop-u.left c.push-then-not-is_refuted.new.self c.in-Some.u c.in-Ok.ensures.ok)
          (λ unrefuted. kept_now c.loop-u.left c.push-then-not-is_refuted.new.self c.in-Some.u c.in-Ok.ensures.ok);
    }

pub loop-u-preserved : goal.loop-u-preserved
loop-u-preserved c =
    let found = found_before c.args.subject.now.query c.pred-before.result c.saturating_sub-below.result (c.args.subject.now.limits.depth - 1) c.args.subject.now.limits.nodes c.in-Some.u c.in_ok-outcome.outcome c.pred-before.ensures c.saturating_sub-below.ensures c.in_ok-outcome.ensures in
    record {
      so_far = left_dropped c.args.subject.now.query (c.args.subject.now.limits.depth - 1) c.args.subject.now.limits.nodes c.loop-u.unmoves c.next.new.self c.loop-u.left c.loop-u.all c.in-Some.u c.in_ok-outcome.outcome c.loop-u.invariant.so_far c.in-Some.ensures found
          (sym c.is_refuted.ensures ∙ c.if-not-is_refuted.false);
      looked = looked_more c.args.subject.now.query (c.args.subject.now.limits.depth - 1) c.args.subject.now.limits.nodes c.loop-u.unmoves c.next.new.self c.loop-u.left c.loop-u.left c.loop-u.looked.items c.push.new.self.items (record { unmove = c.in-Some.u; outcome = c.in_ok-outcome.outcome }) c.loop-u.invariant.looked c.in-Some.ensures found c.in_ok-push.ensures.items
          (λ v there. there)
          (λ unrefuted. absurd (both_ways (is_refuted c.in_ok-outcome.outcome) unrefuted (sym c.is_refuted.ensures ∙ c.if-not-is_refuted.false)));
    }

pub returns-clause-left : goal.returns-clause-left
returns-clause-left c =
    let are = all_left c.args.subject.now.query (c.args.subject.now.limits.depth - 1) c.args.subject.now.limits.nodes c.loop-u.unmoves c.loop-u.left c.loop-u.all c.loop-u.invariant.so_far c.in_default.ensures.0 in
    record { are = are; games = ends_among c.last_moves_are_listed.ensures.listed c.last_moves_are_listed.ensures.reached c.args.subject.now.query (c.args.subject.now.limits.depth - 1) c.args.subject.now.limits.nodes c.loop-u.left are }

pub returns-clause-looked : goal.returns-clause-looked
returns-clause-looked c =
    looked_all c.args.subject.now.query (c.args.subject.now.limits.depth - 1) c.args.subject.now.limits.nodes c.loop-u.unmoves c.loop-u.left c.loop-u.looked.items c.loop-u.invariant.looked c.in_default.ensures.0
