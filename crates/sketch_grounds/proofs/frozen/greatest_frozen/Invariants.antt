use Rattle.general_lemmas.proofs.Rounds.{count}
use Rattle.sketch_grounds.proofs.Freezing.{Shrunk}
use Rattle.sketch_grounds.proofs.frozen.greatest_frozen.Given as goal

abbrev pub invariant-rounds : goal.invariant-rounds
invariant-rounds l = Shrunk l.fn.held l.sketch l.set

abbrev pub decreases-rounds : goal.decreases-rounds
decreases-rounds l = count l.set
