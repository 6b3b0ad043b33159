use Rattle.std.proofs.Common.{◌≡◌, drop}
use Rattle.capture_prices.specs.Prices.{are_ascending}
use Rattle.capture_prices.proofs.prices.are_gates.Given as goal

abbrev pub invariant-loop-gate : goal.invariant-loop-gate
invariant-loop-gate l = are_ascending l.least (drop l.gate-index l.gates) ≡ are_ascending 0 l.gates
