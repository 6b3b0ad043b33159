use Rattle.std.proofs.Common.{◌≡◌, ◌++◌, map}
use Rattle.std.specs.List.{All}
use Rattle.proof_prose.specs.Bodies.{IsSpoken}
use Rattle.proof_prose.specs.Standing.{IsPhrased}
use Rattle.proof_prose.proofs.bodies.chosen.Given as goal

abbrev pub invariant-loop-phrased : goal.invariant-loop-phrased
invariant-loop-phrased l = record {
  nodes : map (λ s. s.node) l.told.items ++ map (λ p. p.node) l.phrased-iterator.rest.items ≡ map (λ p. p.node) l.fn.all.items;
  left : All IsPhrased l.phrased-iterator.rest.items;
  said : All IsSpoken l.told.items;
}
