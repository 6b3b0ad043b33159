use Rattle.std.proofs.Common.{List, Bool, ap, ◌∙◌}
use Rattle.past_sketches.specs.Sets.{union}
use Rattle.board_base.specs.Squares.{squares_of}
use Rattle.past_sketches.proofs.SetAlgebra.{union-bits}
use Rattle.figures.proofs.sets.either.Goals as goal

pub returns : goal.returns
returns c = c.from_bits.ensures.squares ∙ union-bits c.bits.result c.bits-2.result ∙ ap (λ (l : List Bool). union l (squares_of c.bits-2.result)) c.bits.ensures.squares ∙ ap (union c.args.a) c.bits-2.ensures.squares
