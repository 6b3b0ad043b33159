use Rattle.std.proofs.Common.{◌≡◌, ◌+◌, drop}
use Rattle.proof_story.specs.Rows.{word_length}
use Rattle.proof_story.proofs.wrapping.word_length.Given as goal

abbrev pub invariant-loop-i : goal.invariant-loop-i
invariant-loop-i l = word_length l.line ≡ l.i + word_length (drop l.i l.line)
