use Rattle.std.proofs.Common.{◌≡◌, List, Bool, ap, ◌∙◌}
use Rattle.board_base.specs.Board.{is_in}
use Rattle.board_base.specs.Squares.{squares_of}
use Rattle.cage_rules.proofs.SetAlgebra.{both-bits, is_in-both}
use Rattle.cage_rules.specs.SetSteps.{both}
use Rattle.balance_rule.proofs.earnings.both.Goals as goal

pub returns : goal.returns
returns c = λ s inside.
    let made : c.from_bits.result ≡ both c.args.a c.args.b = c.from_bits.ensures.squares ∙ both-bits c.bits.result c.bits-2.result ∙ ap (λ (l : List Bool). both l (squares_of c.bits-2.result)) c.bits.ensures.squares ∙ ap (both c.args.a) c.bits-2.ensures.squares in
    ap (λ (l : List Bool). is_in l s) made ∙ is_in-both c.args.a c.args.b s inside
