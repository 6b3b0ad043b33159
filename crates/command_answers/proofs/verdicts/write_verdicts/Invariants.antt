use Rattle.command_answers.proofs.Settled.{LinesSoFar}
use Rattle.command_answers.proofs.verdicts.write_verdicts.Given as goal

abbrev pub invariant-loop-i : goal.invariant-loop-i
invariant-loop-i l = LinesSoFar l.depth l.rights l.settled l.i l.text.items
