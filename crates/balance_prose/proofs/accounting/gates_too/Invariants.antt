use Rattle.std.proofs.Common.{◌≡◌, take}
use Rattle.std.specs.List.{flat_map}
use Rattle.balance_prose.specs.AccountWords.{gate_too}
use Rattle.balance_prose.proofs.accounting.gates_too.Given as goal

abbrev pub invariant-loop-gate : goal.invariant-loop-gate
invariant-loop-gate l = l.list.items ≡ flat_map gate_too (take l.gate-index l.gates)
