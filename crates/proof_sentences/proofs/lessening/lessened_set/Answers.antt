use Rattle.std.proofs.Common.{refl, arith}
use Rattle.proof_sentences.proofs.Parts.{left-all, left-next}
use Rattle.proof_sentences.proofs.lessening.lessened_set.Goals as goal

pub loop-i-init : goal.loop-i-init
loop-i-init c = record { supports = c.requires; below = refl }

pub loop-i-preserved : goal.loop-i-preserved
loop-i-preserved c = record {
  supports = c.without_square-left.ensures.supports;
  below = left-next c.args.query.now c.args.reason.now c.args.set c.loop-i.left c.without_square-left.result c.loop-i.i c.loop-i.invariant.below
      (rw c.known.ensures at c.without_square-left.ensures.left);
}

pub returns-clause-least : goal.returns-clause-least
returns-clause-least c = left-all c.args.query.now c.args.reason.now c.args.set c.loop-i.left c.loop-i.i (omega arith) c.loop-i.invariant.below
