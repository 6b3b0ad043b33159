use Rattle.std.proofs.lemmas.Bool.{both_ways}
use Rattle.ledger_told.proofs.News.{among-more}
use Rattle.ledger_told.proofs.held.is_among.Goals as goal

pub loop-other-preserved : goal.loop-other-preserved
loop-other-preserved c =
    among-more c.args.lines.now c.loop-other.other-index c.args.line.now _ c.loop-other-test.true c.other-item.is (λ same. both_ways _ c.if-is_same_line.false (c.is_same_line.ensures.1 same)) c.loop-other.invariant
