use Rattle.std.proofs.Common.{◌≡◌, ◌-◌}
use Rattle.std.specs.List.{list_any, range_with_len}
use Rattle.san_text.specs.Spelling.{has_move, has_move_from}
use Rattle.san_text.proofs.marks.has_move.Given as goal

abbrev pub invariant-loop-i : goal.invariant-loop-i
invariant-loop-i l = list_any (has_move_from l.state) (range_with_len l.i (64 - l.i)) ≡ has_move l.state
