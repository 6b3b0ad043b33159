use Rattle.std.proofs.Common.{◌≡◌}
use Rattle.std.specs.List.{list_any, range_with_len}
use Rattle.ledger_lines.specs.Slants.{is_slant_from_on}
use Rattle.ledger_lines.proofs.slants.has_slant_on.Given as goal

abbrev pub invariant-loop-i : goal.invariant-loop-i
invariant-loop-i l = l.found ≡ list_any (is_slant_from_on l.class l.homes l.s) (range_with_len 0 l.i)
