use Rattle.std.proofs.Common.{◌≡◌, ◌++◌, ℕ, slice_index}
use Rattle.std.specs.List.{flat_map, range_with_len}
use Rattle.ledger_lines.specs.LineTexts.{class_words}
use Rattle.ledger_lines.proofs.writing.push_classes.Given as goal

abbrev pub invariant-loop-k : goal.invariant-loop-k
invariant-loop-k l = l.out.items ≡ l.fn.out.items ++ flat_map (λ (k : ℕ). class_words k (slice_index l.numbers k)) (range_with_len 0 l.k)
