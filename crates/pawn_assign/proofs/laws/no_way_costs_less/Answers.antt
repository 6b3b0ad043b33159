use Rattle.std.proofs.Common.{ℕ, pos, ◌+ℤ◌, ◌≤ℤ◌, subst}
use Rattle.assignment.specs.Assignments.{total}
use Rattle.pawn_assign.proofs.Aside.{costs_aside, costs_low}
use Rattle.pawn_assign.proofs.EachPawn.{no_less}
use Rattle.pawn_assign.proofs.laws.no_way_costs_less.Goals as goal

pub returns : goal.returns
returns c = record {
  costs = no_less;
  aside = costs_aside;
  came = costs_low;
  files = λ o colour board u v files bounded injection come.
      subst (λ (n : ℕ). (total u +ℤ total v) ≤ℤ pos n) (costs_aside o colour board files injection come) (no_less o colour board u v files bounded injection);
}
