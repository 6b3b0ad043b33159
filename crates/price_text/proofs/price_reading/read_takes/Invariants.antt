use Rattle.price_text.proofs.PriceWords.{TakesSoFar}
use Rattle.price_text.proofs.price_reading.read_takes.Given as goal

abbrev pub invariant-loop-i : goal.invariant-loop-i
invariant-loop-i l = TakesSoFar l.text l.i l.rest l.takes
