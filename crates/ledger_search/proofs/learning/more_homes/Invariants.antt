use Rattle.std.proofs.Common.{◌≡◌, ℕ, ◌<◌, length, []}
use Rattle.std.specs.Prelude.{slice_index_or}
use Rattle.ledger_search.specs.Learning.{Finds}
use Rattle.ledger_search.specs.declared.questions.Question.TheVariants.{Home}
use Rattle.ledger_search.proofs.learning.more_homes.Given as goal

abbrev pub invariant-loop-i : goal.invariant-loop-i
invariant-loop-i l = record {
  size : length l.all ≡ 64;
  done : (s : ℕ) → s < l.i → Finds (Home s) l.query l.account.set l.account.prices (slice_index_or l.homes s []) (slice_index_or l.all s []);
}
