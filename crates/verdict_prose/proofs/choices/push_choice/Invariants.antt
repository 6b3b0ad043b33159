use Rattle.std.proofs.Common.{◌≡◌, ◌++◌, drop}
use Rattle.std.specs.Prelude.{None}
use Rattle.verdict_prose.specs.Choices.{choice_from}
use Rattle.verdict_prose.proofs.choices.push_choice.Given as goal

abbrev pub invariant-loop-i : goal.invariant-loop-i
invariant-loop-i l = l.out.items ++ choice_from l.word l.before l.board (drop l.i l.moves) ≡ l.fn.out.items ++ choice_from l.word None l.board l.moves
