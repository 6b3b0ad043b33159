use Rattle.std.proofs.Common.{[], sym}
use Rattle.std.proofs.lemmas.List.{append-nil}
use Rattle.board_base.specs.Board.{at}
use Rattle.board_base.specs.Game.{board_after}
use Rattle.board_base.proofs.Equal.{the_is}
use Rattle.men_fates.proofs.Brought.{brought}
use Rattle.men_fates.proofs.Lasting.{walled-last}
use Rattle.men_fates.proofs.Roads.{way-past}
use Rattle.men_fates.proofs.Tombs.{each-exposed, each-officer-fell, each-pawn-fell}
use Rattle.men_fates.proofs.fates.pawns_pass_walls.Goals as goal

pub returns-clause-ways : goal.returns-clause-ways
returns-clause-ways f = λ o g set c h walled first. way-past o g g [] set c h walled (sym (append-nil g)) first

pub returns-clause-brought : goal.returns-clause-brought
returns-clause-brought f = λ o g set c h s k walled first label there. brought o g g [] set c h s (record { colour = c; kind = k }) walled (sym (append-nil g)) first label (the_is c k (at (board_after o g) s) there)

pub returns-clause-exposed : goal.returns-clause-exposed
returns-clause-exposed c = each-exposed

pub returns-clause-officers : goal.returns-clause-officers
returns-clause-officers c = each-officer-fell

pub returns-clause-pawns : goal.returns-clause-pawns
returns-clause-pawns c = each-pawn-fell

pub returns-clause-last : goal.returns-clause-last
returns-clause-last c = walled-last
