use Rattle.std.proofs.Common.{◌≡◌, ◌≤◌, ◌*◌, take}
use Rattle.std.specs.List.{sum_by}
use Rattle.capture_prices.specs.declared.prices.Gate.{Gate}
use Rattle.balance_rule.proofs.balance.all_gates.Given as goal

abbrev pub invariant-loop-gate : goal.invariant-loop-gate
invariant-loop-gate l = record {
  number : l.all ≡ sum_by (λ (g : Gate). g.toll) (take l.gate-index l.gate-items);
  small : l.all ≤ 96 * l.gate-index;
}
