use Rattle.std.proofs.Common.{◌≡◌, ◌-◌}
use Rattle.std.specs.List.{find, range_with_len}
use Rattle.unmove_gen.specs.Listed.{mover}
use Rattle.retraction_bars.specs.Bars.{gives_check}
use Rattle.retraction_bars.specs.Pairs.{checker_from}
use Rattle.retraction_bars.proofs.pairs.checker_from.Given as goal

abbrev pub invariant-loop-n : goal.invariant-loop-n
invariant-loop-n l = find (gives_check l.query.board (mover l.query)) (range_with_len l.n (64 - l.n)) ≡ checker_from l.query l.low
