use Rattle.std.proofs.Common.{◌≡◌, ℕ, List, drop, length, ap, sym, subst, ◌∙◌, arith}
use Rattle.assignment.specs.Assignments.{IsInjection, assignment_cost}
use Rattle.first_pairing.specs.FirstPairings.{IsFirstPairing}
use Rattle.first_pairing.proofs.Endings.{IsFirstPairing-found, IsInjection-none, cost-none, pairing-cost, pairing-found, pairing-injection}
use Rattle.first_pairing.proofs.first.first_pairing.Goals as goal

pub first_ending-requires : goal.first_ending-requires
first_ending-requires c =
    let size : length c.new.result.items ≡ 0 = ap (λ (l : List ℕ). length l) c.new.ensures in
    record {
      table = c.requires;
      rows = omega arith;
      apart = subst (λ (l : List ℕ). IsInjection 16 (length l) l) (sym c.new.ensures) (IsInjection-none 16);
      spent = sym (ap (assignment_cost (drop (length c.args.costs.now) c.args.costs.now)) c.new.ensures ∙ cost-none _);
      small = omega arith;
      bounded = c.solve_large-solution.ensures.bounded;
      reached = c.solve_large-solution.ensures.reached;
    }

pub unwrap-requires : goal.unwrap-requires
unwrap-requires c =
    pairing-found 16 c.first_ending.result c.args.costs.now c.solve_large-solution.result.cost c.requires.rows c.solve_large-solution.ensures.least (rw c.new.ensures at c.first_ending.ensures)

pub returns : goal.returns
returns c =
    let first : IsFirstPairing 16 c.args.costs.now c.unwrap.result.items =
    IsFirstPairing-found 16 c.args.costs.now c.solve_large-solution.result.cost c.unwrap.result.items c.solve_large-solution.ensures.least (sym (rw (c.new.ensures, c.unwrap.ensures) at c.first_ending.ensures)) in
    record {
      injection = pairing-injection 16 c.args.costs.now c.unwrap.result.items first;
      cost = pairing-cost 16 c.args.costs.now c.unwrap.result.items first;
      first = first;
    }
