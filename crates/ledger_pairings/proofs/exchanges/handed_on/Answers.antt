use Rattle.std.proofs.Common.{subst, sym, arith, ◌∙◌}
use Rattle.assignment.specs.Assignments.{IsInjection}
use Rattle.ledger_pairings.proofs.Injected.{injection-swap}
use Rattle.ledger_pairings.proofs.exchanges.handed_on.Goals as goal
use Rattle.ledger_pairings.proofs.exchanges.handed_on.Goals.{then-taken-free, else-taken-free}

pub loop-preserved : goal.loop-preserved
loop-preserved c = elim c.if-taken-free.branch [
  | then-taken-free w ↦ record {
    injection = subst (IsInjection 16 16) (sym (w.columns-is ∙ w.swap.ensures.after)) (injection-swap c.loop.at w.index-holder.result c.loop.columns c.loop.invariant.injection c.loop.invariant.at w.index-holder.ensures);
    at = omega (arith, w.at-is, w.index-holder.ensures);
  }
  | else-taken-free w ↦ record {
    injection = subst (IsInjection 16 16) (sym w.columns-is) c.loop.invariant.injection;
    at = omega (arith, w.at-is, c.loop.invariant.at);
  }
]
