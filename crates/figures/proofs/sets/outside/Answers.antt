use Rattle.std.proofs.Common.{ap, ◌∙◌, arith}
use Rattle.past_sketches.specs.SetSteps.{outside}
use Rattle.past_sketches.proofs.SetAlgebra.{outside-bits}
use Rattle.figures.proofs.sets.outside.Goals as goal

pub returns : goal.returns
unfolding outside
returns c = c.from_bits.ensures.squares ∙ outside-bits c.bits.result (omega arith) ∙ ap outside c.bits.ensures.squares
