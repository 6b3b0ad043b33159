use Rattle.std.proofs.Common.{◌≡◌, ℕ, List, drop, length, ap, sym, subst, ◌∙◌, arith}
use Rattle.assignment.specs.Assignments.{IsInjection, assignment_cost}
use Rattle.first_pairing.proofs.Endings.{IsFirstPairing-found, IsInjection-none, cost-none, pairing-cost, pairing-found, pairing-injection}
use Rattle.first_pairing.specs.FirstPairings.{IsFirstPairing}
use Rattle.proof_sentences.proofs.ways.cheapest_way.Goals as goal

pub first_ending-requires : goal.first_ending-requires
first_ending-requires c =
    let size : length c.new.result.items ≡ 0 = ap (λ (l : List ℕ). length l) c.new.ensures in
    record {
      rows = omega (arith, c.rows.ensures.value);
      few = c.rows.ensures.table.rows;
      apart = subst (λ (l : List ℕ). IsInjection 8 (length l) l) (sym c.new.ensures) (IsInjection-none 8);
      spent = sym (ap (assignment_cost (drop c.rows.result c.args.costs.now)) c.new.ensures ∙ cost-none _);
      small = omega arith;
      bounded = c.requires.bounded;
      reached = c.requires.reached;
    }

pub unwrap-requires : goal.unwrap-requires
unwrap-requires c =
    pairing-found 8 c.first_ending.result c.args.costs.now c.args.least.now.cost c.rows.ensures.table.rows c.requires.least (rw (c.rows.ensures.value, c.new.ensures) at c.first_ending.ensures)

pub returns : goal.returns
returns c =
    let first : IsFirstPairing 8 c.args.costs.now c.unwrap.result.items =
    IsFirstPairing-found 8 c.args.costs.now c.args.least.now.cost c.unwrap.result.items c.requires.least (sym (rw (c.rows.ensures.value, c.new.ensures, c.unwrap.ensures) at c.first_ending.ensures)) in
    record {
      injection = pairing-injection 8 c.args.costs.now c.unwrap.result.items first;
      cost = c.requires.least ∙ sym (pairing-cost 8 c.args.costs.now c.unwrap.result.items first);
      first = first;
    }
