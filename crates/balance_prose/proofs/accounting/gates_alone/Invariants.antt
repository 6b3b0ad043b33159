use Rattle.std.proofs.Common.{◌≡◌, take}
use Rattle.std.specs.List.{flat_map}
use Rattle.balance_prose.specs.AccountWords.{gate_alone}
use Rattle.balance_prose.proofs.accounting.gates_alone.Given as goal

abbrev pub invariant-loop-gate : goal.invariant-loop-gate
invariant-loop-gate l = l.list.items ≡ flat_map gate_alone (take l.gate-index l.gates)
