use Rattle.std.proofs.Common.{◌<◌}
use Rattle.assignment.specs.Assignments.{IsInjection}
use Rattle.ledger_pairings.proofs.exchanges.handed_on.Given as goal

abbrev pub invariant-loop : goal.invariant-loop
invariant-loop l = record {
  injection : IsInjection 16 16 l.columns;
  at : l.at < 16;
}
