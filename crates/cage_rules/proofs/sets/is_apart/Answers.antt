use Rattle.std.proofs.Common.{ap, ◌∙◌}
use Rattle.board_base.specs.Squares.{number_of}
use Rattle.cage_rules.proofs.SetAlgebra.{apart-bits}
use Rattle.cage_rules.proofs.sets.is_apart.Goals as goal

pub returns : goal.returns
returns c = apart-bits c.args.a c.args.b c.bits.result (c.bits.ensures.number ∙ ap number_of c.both.ensures) (c.bits.ensures.squares ∙ c.both.ensures)
