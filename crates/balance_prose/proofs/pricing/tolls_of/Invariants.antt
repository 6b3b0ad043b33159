use Rattle.std.proofs.Common.{◌≡◌, take}
use Rattle.std.specs.List.{flat_map}
use Rattle.balance_prose.specs.Pricing.{gate_words}
use Rattle.balance_prose.proofs.pricing.tolls_of.Given as goal

abbrev pub invariant-loop-gate : goal.invariant-loop-gate
invariant-loop-gate l = l.list.items ≡ flat_map gate_words (take l.gate-index l.gates)
