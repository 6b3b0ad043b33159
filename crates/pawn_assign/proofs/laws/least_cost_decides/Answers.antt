use Rattle.pawn_assign.proofs.EachPawn.{decides}
use Rattle.pawn_assign.proofs.laws.least_cost_decides.Goals as goal

pub returns : goal.returns
returns c = decides
