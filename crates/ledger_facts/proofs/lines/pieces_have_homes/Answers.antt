use Rattle.ledger_facts.proofs.Pieces.{pieces-few}
use Rattle.ledger_facts.proofs.lines.pieces_have_homes.Goals as goal

pub returns : goal.returns
returns c = pieces-few
