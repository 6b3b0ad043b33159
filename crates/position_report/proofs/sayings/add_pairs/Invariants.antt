use Rattle.std.proofs.Common.{◌≡◌, ◌++◌, take}
use Rattle.std.specs.List.{flat_map}
use Rattle.position_report.specs.Sayings.{pair_verdicts}
use Rattle.position_report.proofs.sayings.add_pairs.Given as goal

abbrev pub invariant-loop-pair : goal.invariant-loop-pair
invariant-loop-pair l = l.verdicts.items ≡ l.fn.verdicts.items ++ flat_map (pair_verdicts) (take l.pair-index l.pairs)
