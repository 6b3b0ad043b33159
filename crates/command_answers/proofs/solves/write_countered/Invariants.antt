use Rattle.std.proofs.Common.{◌≡◌, ◌++◌, take}
use Rattle.std.specs.Prelude.{codes}
use Rattle.command_answers.specs.Solves.{move_words}
use Rattle.command_answers.proofs.solves.write_countered.Given as goal

abbrev pub invariant-loop-i : goal.invariant-loop-i
invariant-loop-i l = l.text.items ≡ codes "countered" ++ move_words (take l.i l.game)
