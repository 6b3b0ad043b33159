use Rattle.std.proofs.Common.{arith}
use Rattle.ledger_lines.proofs.Counted.{all-counted, count-more, few-counted}
use Rattle.ledger_prose.specs.Sentences.{is_named, number_named}
use Rattle.ledger_prose.proofs.due.number_named.Goals as goal

pub one_more-n-requires : goal.one_more-n-requires
one_more-n-requires c = omega (arith, few-counted (is_named c.args.query.now c.args.lines.now) c.loop-i.i c.loop-i.n c.loop-i.invariant)

pub loop-i-preserved : goal.loop-i-preserved
loop-i-preserved c =
    count-more (is_named c.args.query.now c.args.lines.now) c.loop-i.i c.known.result c.loop-i.n c.one_more-n.result c.is_named.result c.loop-i.invariant c.known.ensures c.is_named.ensures c.one_more-n.ensures

pub returns : goal.returns
unfolding number_named
returns c = all-counted (is_named c.args.query.now c.args.lines.now) c.loop-i.i c.loop-i.n c.loop-i.invariant (omega arith)
