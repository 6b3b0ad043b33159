use Rattle.std.proofs.Common.{◌≡◌, ℕ, ◌<◌, length}
use Rattle.std.specs.Prelude.{slice_index}
use Rattle.ledger_facts.specs.declared.suppositions.Squares.TheVariants.{Class}
use Rattle.ledger_search.specs.Learning.{Raises}
use Rattle.ledger_search.proofs.counts.raised_on.Given as goal

abbrev pub invariant-loop-k : goal.invariant-loop-k
invariant-loop-k l = record {
  size : length l.numbers ≡ 16;
  done : (k : ℕ) → k < l.k → Raises l.side (Class k) l.query l.account.set l.account.prices (slice_index l.least_on k) (slice_index l.numbers k);
}
