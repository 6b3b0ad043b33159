use Rattle.std.proofs.Common.{◌≡◌, take}
use Rattle.std.specs.List.{filter}
use Rattle.diagram_study.specs.Pairs.{are_both_in}
use Rattle.diagram_study.proofs.pairs.pairs_in.Given as goal

abbrev pub invariant-loop-pair : goal.invariant-loop-pair
invariant-loop-pair l = l.due.items ≡ filter (are_both_in l.kept) (take l.pair-index l.pairs)
