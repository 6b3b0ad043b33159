use Rattle.std.proofs.Common.{ap, ◌∙◌, arith}
use Rattle.cage_rules.specs.SetSteps.{outside}
use Rattle.cage_rules.proofs.SetAlgebra.{outside-bits}
use Rattle.cage_rules.proofs.sets.outside.Goals as goal

pub returns : goal.returns
returns c = c.from_bits.ensures.squares ∙ outside-bits c.bits.result (omega arith) ∙ ap outside c.bits.ensures.squares
