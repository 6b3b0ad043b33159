use Rattle.std.proofs.Common.{◌≡◌, ◌-◌}
use Rattle.std.specs.List.{list_all, range_with_len}
use Rattle.balance_prose.specs.Counted.{is_file_plain, is_side_plain}
use Rattle.balance_prose.proofs.plain.is_side_plain.Given as goal

abbrev pub invariant-loop-file : goal.invariant-loop-file
invariant-loop-file l = list_all (is_file_plain l.takes) (range_with_len l.file (8 - l.file)) ≡ is_side_plain l.takes
