use Rattle.std.proofs.Common.{◌≡◌, ◌-◌}
use Rattle.std.specs.List.{list_any, range_with_len}
use Rattle.play_rules.specs.States.{legal_at}
use Rattle.play_rules.specs.Listed.{moves_between}
use Rattle.san_text.specs.Spelling.{has_move_from}
use Rattle.san_text.proofs.marks.has_move_from.Given as goal

abbrev pub invariant-loop-i : goal.invariant-loop-i
invariant-loop-i l = list_any (λ to. list_any (legal_at l.state) (moves_between l.from to)) (range_with_len l.i (64 - l.i)) ≡ has_move_from l.state l.from
