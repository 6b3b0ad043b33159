use Rattle.std.proofs.Common.{ℕ, ◌<◌}
use Rattle.sketch_node.specs.Nodes.{IsUnknownOn}
use Rattle.sketch_node.proofs.cases.first_unknown.Given as goal

abbrev pub invariant-loop-i : goal.invariant-loop-i
invariant-loop-i l = (j : ℕ) → j < l.i → IsUnknownOn l.sketch l.s j → ⊥
