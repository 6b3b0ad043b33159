use Rattle.price_text.proofs.PricesWritten.{GatesWritten}
use Rattle.price_text.proofs.price_writing.push_gates.Given as goal

abbrev pub invariant-loop-gate : goal.invariant-loop-gate
invariant-loop-gate l = GatesWritten l.gates l.gate-index l.fn.out.items l.out.items
