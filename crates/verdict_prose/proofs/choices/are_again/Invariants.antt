use Rattle.std.proofs.Common.{◌≡◌, drop}
use Rattle.std.specs.List.{list_all}
use Rattle.verdict_prose.specs.Choices.{is_again}
use Rattle.verdict_prose.proofs.choices.are_again.Given as goal

abbrev pub invariant-loop-i : goal.invariant-loop-i
invariant-loop-i l = list_all (is_again l.u) (drop l.i l.moves) ≡ list_all (is_again l.u) (drop l.place l.moves)
