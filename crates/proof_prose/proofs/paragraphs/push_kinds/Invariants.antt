use Rattle.std.proofs.Common.{◌≡◌, ◌++◌, drop}
use Rattle.proof_prose.specs.Paragraphs.{kinds_words}
use Rattle.proof_prose.proofs.paragraphs.push_kinds.Given as goal

abbrev pub invariant-loop-i : goal.invariant-loop-i
invariant-loop-i l = l.out.items ++ kinds_words (drop l.i l.others) ≡ l.fn.out.items ++ kinds_words l.others
