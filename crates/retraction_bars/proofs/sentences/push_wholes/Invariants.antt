use Rattle.std.proofs.Common.{◌≡◌, ◌++◌}
use Rattle.std.specs.List.{flat_map, range_with_len}
use Rattle.retraction_bars.specs.Sentences.{whole_words}
use Rattle.retraction_bars.proofs.sentences.push_wholes.Given as goal

abbrev pub invariant-loop-i : goal.invariant-loop-i
invariant-loop-i l = l.out.items ≡ l.fn.out.items ++ flat_map (whole_words l.query l.cs l.n) (range_with_len 0 l.i)
