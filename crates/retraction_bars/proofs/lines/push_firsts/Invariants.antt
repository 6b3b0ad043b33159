use Rattle.std.proofs.Common.{◌≡◌, ◌++◌}
use Rattle.std.specs.List.{flat_map, range_with_len}
use Rattle.retraction_bars.specs.Lines.{is_first, label_if}
use Rattle.retraction_bars.proofs.lines.push_firsts.Given as goal

abbrev pub invariant-loop-i : goal.invariant-loop-i
invariant-loop-i l = l.out.items ≡ l.fn.out.items ++ flat_map (label_if l.query (is_first l.query)) (range_with_len 0 l.i)
