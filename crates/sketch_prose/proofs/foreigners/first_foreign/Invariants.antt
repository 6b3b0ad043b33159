use Rattle.sketch_prose.proofs.foreigners.first_foreign.Given as goal
use Rattle.sketch_prose.specs.Foreigners.{AreBegunBefore}

abbrev pub invariant-loop-figure : goal.invariant-loop-figure
invariant-loop-figure l = AreBegunBefore l.fn.odds l.sketch l.fn.set l.figure-index
