use Rattle.std.proofs.Common.{arith}
use Rattle.diagram_study.proofs.Holding.{held-all, held-more, held-none}
use Rattle.diagram_study.proofs.held.find_held.Goals as goal

pub loop-found-init : goal.loop-found-init
loop-found-init c = held-none c.args.query.now c.args.known.now _ c.new-held.ensures.items

pub loop-found-preserved : goal.loop-found-preserved
loop-found-preserved c =
    held-more c.args.query.now c.args.known.now c.args.rights.now c.loop-found.found-index c.found-item.result c.unsettled_castling.result _ _ c.loop-found-test.true c.found-item.is c.unsettled_castling.ensures c.loop-found.invariant c.in_ok-add_held.ensures

pub returns : goal.returns
returns c = held-all c.args.query.now c.args.known.now c.args.rights.now c.loop-found.found-index _ (omega arith) c.loop-found.invariant
