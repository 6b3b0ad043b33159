use Rattle.ledger_told.proofs.PawnHomes.{none-taken}
use Rattle.ledger_told.proofs.pawns.most_taken.Goals as goal

pub loop-n-init : goal.loop-n-init
loop-n-init c = none-taken c.args.query.now c.args.ledger.now c.args.s c.requires
