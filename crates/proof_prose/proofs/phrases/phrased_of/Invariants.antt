use Rattle.std.proofs.Common.{◌≡◌, ◌++◌, map}
use Rattle.std.specs.List.{All}
use Rattle.proof_prose.specs.Standing.{IsPhrased}
use Rattle.proof_prose.proofs.phrases.phrased_of.Given as goal

abbrev pub invariant-loop-node : goal.invariant-loop-node
invariant-loop-node l =
    record { nodes : map (λ p. p.node) l.all.items ++ l.node-iterator.rest.items ≡ l.fn.nodes.items; said : All IsPhrased l.all.items }
