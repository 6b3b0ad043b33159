use Rattle.length_bound.proofs.Bound.{needed-most, needed-uncastled}
use Rattle.length_bound.proofs.laws.men_need_moves.Goals as goal

pub returns-clause-most : goal.returns-clause-most
returns-clause-most c = needed-most

pub returns-clause-uncastled : goal.returns-clause-uncastled
returns-clause-uncastled c = needed-uncastled
