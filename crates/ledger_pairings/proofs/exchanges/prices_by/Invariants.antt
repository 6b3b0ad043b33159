use Rattle.std.proofs.Common.{◌≡◌, length}
use Rattle.ledger_pairings.proofs.exchanges.prices_by.Given as goal

abbrev pub invariant-loop-c-2 : goal.invariant-loop-c-2
invariant-loop-c-2 l = length l.prices ≡ 16
