use Rattle.std.proofs.Common.{◌≡◌, ◌-◌}
use Rattle.std.specs.List.{list_any, range_with_len}
use Rattle.ledger_told.specs.Due.{is_class_told, tells_class_at}
use Rattle.ledger_told.proofs.classes.is_class_told.Given as goal

abbrev pub invariant-loop-i : goal.invariant-loop-i
invariant-loop-i l = list_any (tells_class_at l.query l.ledger l.side l.class) (range_with_len l.i (64 - l.i)) ≡ is_class_told l.query l.ledger l.side l.class
