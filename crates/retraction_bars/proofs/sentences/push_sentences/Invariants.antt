use Rattle.std.proofs.Common.{◌≡◌, ◌++◌}
use Rattle.std.specs.List.{flat_map, range_with_len}
use Rattle.retraction_bars.specs.Sentences.{sentence_words}
use Rattle.retraction_bars.proofs.sentences.push_sentences.Given as goal

abbrev pub invariant-loop-n : goal.invariant-loop-n
invariant-loop-n l = l.out.items ≡ l.fn.out.items ++ flat_map (sentence_words l.query l.cs) (range_with_len 0 l.n)
