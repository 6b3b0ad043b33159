use Rattle.std.proofs.Common.{◌≡◌, ◌++◌, ℕ, [], cond}
use Rattle.std.specs.List.{flat_map, range_with_len}
use Rattle.ledger_prose.specs.Words.{class_words, is_elsewhere}
use Rattle.ledger_prose.proofs.leftovers.push_classes.Given as goal

abbrev pub invariant-loop-k : goal.invariant-loop-k
invariant-loop-k l = l.out.items ≡ l.fn.out.items ++ flat_map (λ (k : ℕ). cond (is_elsewhere l.x l.ways k) (class_words k) []) (range_with_len 0 l.k)
