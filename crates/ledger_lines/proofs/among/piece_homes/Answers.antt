use Rattle.std.proofs.Common.{arith}
use Rattle.ledger_lines.specs.Known.{is_piece_home_of, piece_homes}
use Rattle.ledger_lines.proofs.Counted.{all-counted, count-more, few-counted}
use Rattle.ledger_lines.proofs.among.piece_homes.Goals as goal

pub one_more-n-requires : goal.one_more-n-requires
one_more-n-requires c = omega (arith, few-counted (is_piece_home_of c.args.query.now c.args.ledger.now c.args.set) c.loop-i.i c.loop-i.n c.loop-i.invariant)

pub loop-i-preserved : goal.loop-i-preserved
loop-i-preserved c = count-more (is_piece_home_of c.args.query.now c.args.ledger.now c.args.set) c.loop-i.i c.known.result c.loop-i.n c.one_more-n.result c.is_piece_home_of.result c.loop-i.invariant c.known.ensures c.is_piece_home_of.ensures c.one_more-n.ensures

pub returns : goal.returns
unfolding piece_homes
returns c = all-counted (is_piece_home_of c.args.query.now c.args.ledger.now c.args.set) c.loop-i.i c.loop-i.n c.loop-i.invariant (omega arith)
