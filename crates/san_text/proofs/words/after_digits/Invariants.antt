use Rattle.std.proofs.Common.{◌≡◌, drop}
use Rattle.san_text.specs.Words.{after_digits}
use Rattle.san_text.proofs.words.after_digits.Given as goal

abbrev pub invariant-loop-i : goal.invariant-loop-i
invariant-loop-i l = after_digits (drop l.i l.text) ≡ after_digits l.text
