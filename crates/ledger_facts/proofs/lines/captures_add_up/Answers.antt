use Rattle.board_base.specs.Board.{opponent}
use Rattle.ledger_facts.proofs.Counts.{pawns-add, struck-add, unstruck-of}
use Rattle.ledger_facts.proofs.lines.captures_add_up.Goals as goal

pub returns-clause-pawns : goal.returns-clause-pawns
returns-clause-pawns c = λ o g side homes game apart began. pawns-add o g side game homes apart began

pub returns-clause-struck : goal.returns-clause-struck
returns-clause-struck c = λ o g side homes game apart fell. struck-add o g (opponent side) game homes apart fell

pub returns-clause-unstruck : goal.returns-clause-unstruck
returns-clause-unstruck c = λ o g side homes game apart began never_fell. unstruck-of o g side game homes apart began never_fell
