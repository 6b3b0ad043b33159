use Rattle.std.proofs.Common.{◌≡◌, ◌++◌, take}
use Rattle.std.specs.List.{flat_map}
use Rattle.position_report.specs.Shown.{pair_shown}
use Rattle.position_report.proofs.shown.add_pairs.Given as goal

abbrev pub invariant-loop-pair : goal.invariant-loop-pair
invariant-loop-pair l = l.all.items ≡ l.fn.all.items ++ flat_map (pair_shown l.query) (take l.pair-index l.pairs)
