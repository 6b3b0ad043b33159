use Rattle.std.proofs.Common.{List, Bool, ap, ◌∙◌}
use Rattle.board_base.specs.Board.{is_in}
use Rattle.balance_rule.proofs.Greatests.{class-squares}
use Rattle.balance_rule.proofs.earnings.squares_of_class.Goals as goal

pub returns : goal.returns
returns c = λ s inside. ap (λ (l : List Bool). is_in l s) c.from_bits.ensures.squares ∙ class-squares c.args.class s c.requires inside
