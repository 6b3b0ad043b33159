use Rattle.cage_rules.proofs.WalledGames.{caged-walled}
use Rattle.men_fates.proofs.Tombs.{each-exposed, each-officer-fell, each-pawn-fell}
use Rattle.men_fates.proofs.fates.men_fall_to_pawns.Goals as goal

pub returns-clause-exposed : goal.returns-clause-exposed
returns-clause-exposed f = λ o g q set c caged. each-exposed o g set c (caged-walled o g q set caged)

pub returns-clause-officers : goal.returns-clause-officers
returns-clause-officers f = λ o g q set c caged. each-officer-fell o g set c (caged-walled o g q set caged)

pub returns-clause-pawns : goal.returns-clause-pawns
returns-clause-pawns f = λ o g q set c caged. each-pawn-fell o g set c (caged-walled o g q set caged)
