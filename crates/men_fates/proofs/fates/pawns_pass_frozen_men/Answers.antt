use Rattle.std.proofs.Common.{[], ap, sym, ◌∙◌}
use Rattle.std.proofs.lemmas.List.{append-nil}
use Rattle.board_base.specs.Board.{Places, at}
use Rattle.board_base.proofs.Equal.{the_is}
use Rattle.cage_rules.proofs.WalledGames.{caged-walled}
use Rattle.men_fates.proofs.Brought.{brought}
use Rattle.men_fates.proofs.Roads.{way-past}
use Rattle.men_fates.proofs.fates.pawns_pass_frozen_men.Goals as goal

pub returns-clause-ways : goal.returns-clause-ways
returns-clause-ways f = λ o g q set c h caged first. way-past o g g [] set c h (caged-walled o g q set caged) (sym (append-nil g)) first

pub returns-clause-brought : goal.returns-clause-brought
returns-clause-brought f = λ o g q set c h s k caged first label there. brought o g g [] set c h s (record { colour = c; kind = k }) (caged-walled o g q set caged) (sym (append-nil g)) first label (ap (λ (b : Places). at b s) caged.leads.board ∙ the_is c k (at q.board s) there)
