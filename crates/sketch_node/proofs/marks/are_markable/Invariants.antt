use Rattle.std.proofs.Common.{take}
use Rattle.std.specs.List.{All}
use Rattle.sketch_node.specs.Nodes.{IsMarkableOn}
use Rattle.sketch_node.proofs.marks.are_markable.Given as goal

abbrev pub invariant-loop-number : goal.invariant-loop-number
invariant-loop-number l = All (λ n. IsMarkableOn l.scales l.sketch n) (take l.number-index l.numbers)
