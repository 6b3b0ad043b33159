use Rattle.std.proofs.Common.{◌≡◌, ◌∙◌, refl, ap, arith}
use Rattle.ledger_lines.proofs.Counted.{count-more, count_first, few-counted}
use Rattle.ledger_prose.specs.Words.{is_elsewhere, number_elsewhere}
use Rattle.ledger_prose.proofs.leftovers.number_elsewhere.Goals as goal

pub one_more-n-requires : goal.one_more-n-requires
one_more-n-requires c = omega (arith, few-counted (is_elsewhere c.args.x.now c.args.ways.now) c.loop-k.k c.loop-k.n c.loop-k.invariant)

pub loop-k-preserved : goal.loop-k-preserved
loop-k-preserved c =
    count-more (is_elsewhere c.args.x.now c.args.ways.now) c.loop-k.k c.loop-k.k c.loop-k.n c.one_more-n.result c.is_elsewhere.result c.loop-k.invariant refl c.is_elsewhere.ensures c.one_more-n.ensures

pub returns : goal.returns
unfolding number_elsewhere
returns c =
    let whole : c.loop-k.k ≡ 16 = omega arith in
    c.loop-k.invariant ∙ ap (count_first (is_elsewhere c.args.x.now c.args.ways.now)) whole
