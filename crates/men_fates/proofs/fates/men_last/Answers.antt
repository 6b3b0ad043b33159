use Rattle.cage_rules.proofs.WalledGames.{caged-walled}
use Rattle.men_fates.proofs.Lasting.{king-lasts, walled-last}
use Rattle.men_fates.proofs.fates.men_last.Goals as goal

pub returns-clause-kings : goal.returns-clause-kings
returns-clause-kings c = king-lasts

pub returns-clause-frozen : goal.returns-clause-frozen
returns-clause-frozen c = λ o g q set h caged. walled-last o g set h (caged-walled o g q set caged)
