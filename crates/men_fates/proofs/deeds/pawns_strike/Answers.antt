use Rattle.men_fates.proofs.Blows.{each-by-pawn, each-of-enemy}
use Rattle.men_fates.proofs.MoreDeeds.{strikes-more}
use Rattle.men_fates.proofs.Strikes.{strikes-take}
use Rattle.men_fates.proofs.deeds.pawns_strike.Goals as goal

pub returns-clause-moved : goal.returns-clause-moved
returns-clause-moved c = strikes-more

pub returns-clause-taken : goal.returns-clause-taken
returns-clause-taken c = strikes-take

pub returns-clause-pawns : goal.returns-clause-pawns
returns-clause-pawns c = each-by-pawn

pub returns-clause-enemies : goal.returns-clause-enemies
returns-clause-enemies c = each-of-enemy
