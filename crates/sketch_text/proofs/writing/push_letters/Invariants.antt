use Rattle.sketch_text.proofs.Written.{LettersWritten}
use Rattle.sketch_text.proofs.writing.push_letters.Given as goal

abbrev pub invariant-loop-file : goal.invariant-loop-file
invariant-loop-file l = LettersWritten l.files l.file-index l.fn.out.items l.out.items
