use Rattle.std.proofs.Common.{refl, arith}
use Rattle.std.proofs.lemmas.Bool.{both_ways}
use Rattle.line_claims.proofs.Listings.{first-unlisted, left-more, left-none, listed-more, listed-none}
use Rattle.line_claims.proofs.unlisted.first_unlisted.Goals as goal

pub loop-step-init : goal.loop-step-init
loop-step-init c = record { number = refl; left = left-none c.args.query.now; listed = listed-none c.args.query.now }

pub returns-then-not-is_unmove : goal.returns-then-not-is_unmove
returns-then-not-is_unmove c =
    first-unlisted c.args.query.now c.loop-step.left c.args.steps.now c.loop-step.step-index c.step-item.result c.loop-step.number (omega arith) c.step-item.is c.loop-step.invariant.left c.loop-step.invariant.number (λ here. both_ways _ c.if-not-is_unmove.true (c.is_unmove.ensures.1 here)) c.loop-step.invariant.listed

pub loop-step-preserved : goal.loop-step-preserved
loop-step-preserved c = record {
  number = omega arith;
  left = left-more c.args.query.now c.loop-step.left c.pred-left.result c.args.steps.now c.loop-step.step-index c.step-item.result (omega arith) c.step-item.is c.loop-step.invariant.left c.pred-left.ensures;
  listed = listed-more c.args.query.now c.loop-step.left c.args.steps.now c.loop-step.step-index c.step-item.result (omega arith) c.step-item.is c.loop-step.invariant.left (c.is_unmove.ensures.0 c.if-not-is_unmove.false) c.loop-step.invariant.listed;
}
