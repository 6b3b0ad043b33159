use Rattle.price_text.proofs.PriceWords.{GatesSoFar}
use Rattle.price_text.proofs.price_reading.read_gates.Given as goal

abbrev pub invariant-loop-n : goal.invariant-loop-n
invariant-loop-n l = GatesSoFar l.text l.n l.least l.rest l.gates.items
