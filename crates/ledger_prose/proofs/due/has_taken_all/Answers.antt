use Rattle.std.proofs.Common.{sym, ◌∙◌}
use Rattle.ledger_prose.specs.Sentences.{are_all_taken}
use Rattle.ledger_prose.proofs.Listing.{any-more}
use Rattle.ledger_prose.proofs.due.has_taken_all.Goals as goal

pub loop-line-preserved : goal.loop-line-preserved
loop-line-preserved c =
    any-more (are_all_taken c.args.side) c.args.lines.now c.loop-line.line-index c.line-item.result c.loop-line-test.true c.line-item.is c.loop-line.invariant (sym c.are_all_taken.ensures ∙ c.if-are_all_taken.false)
