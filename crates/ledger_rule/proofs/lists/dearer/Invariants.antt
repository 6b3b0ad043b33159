use Rattle.std.proofs.Common.{◌≡◌, ◌+◌, ◌<◌, ℕ, cond, length, slice_index}
use Rattle.ledger_facts.specs.Accounts.{charge}
use Rattle.ledger_facts.specs.Supposed.{has_class}
use Rattle.ledger_rule.proofs.lists.dearer.Given as goal

abbrev pub invariant-loop-k : goal.invariant-loop-k
invariant-loop-k l = record {
  size : length l.dear ≡ 16;
  done : (j : ℕ) → j < l.k → slice_index l.dear j ≡ slice_index l.takes j + cond (has_class l.squares j) charge 0;
}
