use Rattle.std.proofs.Common.{◌≡◌, ◌-◌}
use Rattle.std.specs.List.{list_any, range_with_len}
use Rattle.retraction_bars.specs.Lines.{has_first, is_first}
use Rattle.retraction_bars.proofs.lines.has_first.Given as goal

abbrev pub invariant-loop-i : goal.invariant-loop-i
invariant-loop-i l = list_any (is_first l.query) (range_with_len l.i (64 - l.i)) ≡ has_first l.query
