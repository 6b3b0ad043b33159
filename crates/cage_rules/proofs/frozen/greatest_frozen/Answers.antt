use Rattle.std.proofs.Common.{List, Bool, ap, ◌∙◌}
use Rattle.board_base.specs.Board.{is_in}
use Rattle.cage_rules.proofs.Filling.{all-in}
use Rattle.cage_rules.proofs.Greatest.{occupied-inside}
use Rattle.cage_rules.proofs.frozen.greatest_frozen.Goals as goal

pub returns-clause-greatest : goal.returns-clause-greatest
returns-clause-greatest c = λ set frozen.
    c.settled.ensures.greatest set frozen
    (λ s member. ap (λ (l : List Bool). is_in l s) c.from_bits.ensures.squares ∙ all-in s (occupied-inside c.args.query.now.board s c.has_whole_board.ensures (frozen.occupied s member)))
