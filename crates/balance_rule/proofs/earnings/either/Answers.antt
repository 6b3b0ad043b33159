use Rattle.std.proofs.Common.{◌≡◌, List, Bool, ap, ◌∙◌}
use Rattle.board_base.specs.Board.{is_in}
use Rattle.board_base.specs.Squares.{squares_of}
use Rattle.cage_rules.proofs.SetAlgebra.{union-bits, is_in-union}
use Rattle.cage_rules.specs.Sets.{union}
use Rattle.balance_rule.proofs.earnings.either.Goals as goal

pub returns : goal.returns
returns c = λ s inside.
    let made : c.from_bits.result ≡ union c.args.a c.args.b = c.from_bits.ensures.squares ∙ union-bits c.bits.result c.bits-2.result ∙ ap (λ (l : List Bool). union l (squares_of c.bits-2.result)) c.bits.ensures.squares ∙ ap (union c.args.a) c.bits-2.ensures.squares in
    ap (λ (l : List Bool). is_in l s) made ∙ is_in-union c.args.a c.args.b s inside
