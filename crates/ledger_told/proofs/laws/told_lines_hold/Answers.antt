use Rattle.ledger_told.proofs.Known.{all-true}
use Rattle.ledger_told.proofs.laws.told_lines_hold.Goals as goal

pub returns : goal.returns
returns c = all-true
