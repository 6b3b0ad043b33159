use Rattle.std.proofs.Common.{◌≡◌, ◌++◌}
use Rattle.std.specs.List.{flat_map, range_with_len}
use Rattle.proof_sentences.specs.Sentences.{nth_way}
use Rattle.proof_sentences.proofs.pawn_facts.list_ways.Given as goal

abbrev pub invariant-loop-k : goal.invariant-loop-k
invariant-loop-k l = l.list.items ≡ l.fn.list.items ++ flat_map (nth_way l.query l.side l.files) (range_with_len 0 l.k)
