use Rattle.std.proofs.Common.{List, Bool, ap, ◌∙◌}
use Rattle.past_sketches.specs.SetSteps.{both}
use Rattle.board_base.specs.Squares.{squares_of}
use Rattle.past_sketches.proofs.SetAlgebra.{both-bits}
use Rattle.figures.proofs.sets.both.Goals as goal

pub returns : goal.returns
unfolding both
returns c = c.from_bits.ensures.squares ∙ both-bits c.bits.result c.bits-2.result ∙ ap (λ (l : List Bool). both l (squares_of c.bits-2.result)) c.bits.ensures.squares ∙ ap (both c.args.a) c.bits-2.ensures.squares
