use Rattle.men_ledger.proofs.PawnTolls.{fee-paid, toll-paid}
use Rattle.men_ledger.proofs.tolls.pawns_pay_tolls.Goals as goal

pub returns-clause-fees : goal.returns-clause-fees
returns-clause-fees c = fee-paid

pub returns-clause-tolls : goal.returns-clause-tolls
returns-clause-tolls c = toll-paid
