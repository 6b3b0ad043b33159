use Rattle.price_text.proofs.PricesWritten.{TakesWritten}
use Rattle.price_text.proofs.price_writing.push_takes.Given as goal

abbrev pub invariant-loop-take : goal.invariant-loop-take
invariant-loop-take l = TakesWritten l.takes l.take-index l.fn.out.items l.out.items
