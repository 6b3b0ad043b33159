use Rattle.ledger_prose.proofs.Saying.{all-reached, all-said}
use Rattle.ledger_prose.proofs.laws.sentences_hold.Goals as goal

pub returns-clause-game : goal.returns-clause-game
returns-clause-game c = all-said

pub returns-clause-reached : goal.returns-clause-reached
returns-clause-reached c = all-reached
