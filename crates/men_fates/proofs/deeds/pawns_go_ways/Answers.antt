use Rattle.men_fates.proofs.Goings.{no-way, pawn-ends}
use Rattle.men_fates.proofs.MoreDeeds.{way-more}
use Rattle.men_fates.proofs.Strikes.{way-captures}
use Rattle.men_fates.proofs.deeds.pawns_go_ways.Goals as goal

pub returns-clause-moved : goal.returns-clause-moved
returns-clause-moved c = way-more

pub returns-clause-ends : goal.returns-clause-ends
returns-clause-ends c = pawn-ends

pub returns-clause-captures : goal.returns-clause-captures
returns-clause-captures c = way-captures

pub returns-clause-others : goal.returns-clause-others
returns-clause-others c = no-way
