use Rattle.assignment.proofs.Beginning.{IsMatched-new}
use Rattle.assignment.proofs.pairing.Pairing.new.Goals as goal

pub returns : goal.returns
returns g c = λ table. IsMatched-new table g.row.W _ _ c.in_order.ensures c.in_order-2.ensures
