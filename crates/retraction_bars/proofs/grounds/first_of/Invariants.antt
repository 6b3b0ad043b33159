use Rattle.std.proofs.Common.{◌≡◌, ◌-◌}
use Rattle.std.specs.List.{find, range_with_len}
use Rattle.retraction_bars.specs.Grounds.{bars_all}
use Rattle.retraction_bars.proofs.grounds.first_of.Given as goal

abbrev pub invariant-loop-n : goal.invariant-loop-n
invariant-loop-n l =
    find (bars_all l.query l.ways l.scope) (range_with_len l.n (l.high - l.n)) ≡ find (bars_all l.query l.ways l.scope) (range_with_len l.low (l.high - l.low))
