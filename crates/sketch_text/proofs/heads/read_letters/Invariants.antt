use Rattle.sketch_text.proofs.HeadTexts.{LettersSoFar}
use Rattle.sketch_text.proofs.heads.read_letters.Given as goal

abbrev pub invariant-loop-letter : goal.invariant-loop-letter
invariant-loop-letter l = LettersSoFar l.text l.letter-index l.least l.files.items
