use Rattle.std.proofs.Common.{◌≡◌, ◌-◌, ◌++◌}
use Rattle.std.specs.List.{filter, flat_map, range_with_len}
use Rattle.unmove_gen.specs.Listed.{unmoves_between, unmoves_to}
use Rattle.retraction_bars.specs.Ways.{is_way}
use Rattle.retraction_bars.proofs.ways.ways_to.Given as goal

abbrev pub invariant-loop-i : goal.invariant-loop-i
invariant-loop-i l = l.ways.items ++ filter (is_way l.query) (flat_map (unmoves_between l.to) (range_with_len l.i (64 - l.i))) ≡ filter (is_way l.query) (unmoves_to l.to)
