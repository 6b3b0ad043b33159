use Rattle.fen_text.proofs.HexTexts.{SetSoFar}
use Rattle.fen_text.proofs.sets.read_set.Given as goal

abbrev pub invariant-loop-i : goal.invariant-loop-i
invariant-loop-i l = SetSoFar l.text l.i l.bits
