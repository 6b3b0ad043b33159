use Rattle.general_lemmas.proofs.Rounds.{count}
use Rattle.cage_rules.proofs.Greatest.{Shrunk}
use Rattle.cage_rules.proofs.frozen.settled.Given as goal

abbrev pub invariant-rounds : goal.invariant-rounds
invariant-rounds l = Shrunk l.query l.fn.start l.set

abbrev pub decreases-rounds : goal.decreases-rounds
decreases-rounds l = count l.set
