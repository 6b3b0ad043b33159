use Rattle.std.proofs.Common.{◌≡◌}
use Rattle.std.specs.List.{flat_map, range_with_len}
use Rattle.figures.specs.Figures.{is_fixed_on}
use Rattle.prose_words.specs.Words.{square_if}
use Rattle.sketch_words.proofs.names.fixed_list.Given as goal

abbrev pub invariant-loop-i : goal.invariant-loop-i
invariant-loop-i l = l.list.items ≡ flat_map (square_if (λ s. is_fixed_on s l.figure)) (range_with_len 0 l.i)
