use Rattle.std.proofs.Common.{arith}
use Rattle.board_base.specs.Board.{is_in}
use Rattle.ledger_lines.specs.Known.{number_in}
use Rattle.ledger_lines.proofs.Counted.{all-counted, count-more, few-counted}
use Rattle.ledger_lines.proofs.among.number_in.Goals as goal

pub one_more-n-requires : goal.one_more-n-requires
one_more-n-requires c = omega (arith, few-counted (is_in c.args.set) c.loop-i.i c.loop-i.n c.loop-i.invariant)

pub loop-i-preserved : goal.loop-i-preserved
loop-i-preserved c = count-more (is_in c.args.set) c.loop-i.i c.known.result c.loop-i.n c.one_more-n.result c.has.result c.loop-i.invariant c.known.ensures c.has.ensures.member c.one_more-n.ensures

pub returns : goal.returns
unfolding number_in
returns c = all-counted (is_in c.args.set) c.loop-i.i c.loop-i.n c.loop-i.invariant (omega arith)
