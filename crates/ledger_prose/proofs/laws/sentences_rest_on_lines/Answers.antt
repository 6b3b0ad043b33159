use Rattle.ledger_prose.proofs.Resting.{all-rest}
use Rattle.ledger_prose.proofs.laws.sentences_rest_on_lines.Goals as goal

pub returns : goal.returns
returns c = all-rest
