use Rattle.fen_text.proofs.WrittenSets.{DigitsSoFar}
use Rattle.fen_text.proofs.sets.set_text.Given as goal

abbrev pub invariant-loop-place : goal.invariant-loop-place
invariant-loop-place l = DigitsSoFar l.fn.set l.place l.bits l.text
