use Rattle.static_rules.proofs.OwnFiles.{AreGiven}
use Rattle.static_rules.proofs.own_files.greedy_cost.Given as goal

abbrev pub invariant-loop-row : goal.invariant-loop-row
invariant-loop-row l = AreGiven l.costs l.row l.cost l.taken
