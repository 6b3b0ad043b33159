use Rattle.men_account.proofs.Captured.{captured-more}
use Rattle.men_account.proofs.Moments.{captured-moments}
use Rattle.men_account.proofs.PawnLaws.{captured-pairs, captured-all, captured-none}
use Rattle.men_account.proofs.pawn_laws.pawns_take_men.Goals as goal

pub returns-clause-moved : goal.returns-clause-moved
returns-clause-moved c = captured-more

pub returns-clause-differ : goal.returns-clause-differ
returns-clause-differ c = captured-pairs

pub returns-clause-enemies : goal.returns-clause-enemies
returns-clause-enemies c = captured-all

pub returns-clause-gone : goal.returns-clause-gone
returns-clause-gone c = captured-none

pub returns-clause-moments : goal.returns-clause-moments
returns-clause-moments c = captured-moments
