use Rattle.std.proofs.Common.{arith, ◌∙◌, ap}
use Rattle.board_base.specs.Board.{at}
use Rattle.men_account.proofs.SideMen.{men-more, few-first, all-first}
use Rattle.men_account.proofs.side_men.men_of.Goals as goal

pub with_place-n-requires : goal.with_place-n-requires
with_place-n-requires c = omega (arith, few-first c.args.side c.args.board.now c.loop-i.i)

pub loop-i-preserved : goal.loop-i-preserved
loop-i-preserved c = men-more c.args.side c.args.board.now c.at.result c.loop-i.i c.loop-i.n c.with_place-n.result c.loop-i.invariant (c.at.ensures.man ∙ ap (at c.args.board.now) c.known.ensures) c.with_place-n.ensures

pub returns-clause-number : goal.returns-clause-number
returns-clause-number c = c.loop-i.invariant ∙ all-first c.args.side c.args.board.now c.loop-i.i (omega arith)

pub returns-clause-few : goal.returns-clause-few
returns-clause-few c = omega (arith, few-first c.args.side c.args.board.now c.loop-i.i)
