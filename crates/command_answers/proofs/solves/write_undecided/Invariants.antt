use Rattle.std.proofs.Common.{◌≡◌, ◌++◌, take}
use Rattle.std.specs.Prelude.{codes}
use Rattle.board_base.specs.Texts.{unmove_words}
use Rattle.command_answers.proofs.solves.write_undecided.Given as goal

abbrev pub invariant-loop-i : goal.invariant-loop-i
invariant-loop-i l = l.text.items ≡ codes "undecided" ++ unmove_words (take l.i l.line)
