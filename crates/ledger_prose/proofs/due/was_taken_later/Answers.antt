use Rattle.std.proofs.Common.{sym, ◌∙◌}
use Rattle.ledger_prose.specs.Sentences.{is_later_fall}
use Rattle.ledger_prose.proofs.Listing.{any-more}
use Rattle.ledger_prose.proofs.due.was_taken_later.Goals as goal

pub loop-line-preserved : goal.loop-line-preserved
loop-line-preserved c =
    any-more (is_later_fall c.args.h) c.args.lines.now c.loop-line.line-index c.line-item.result c.loop-line-test.true c.line-item.is c.loop-line.invariant (sym c.is_later_fall.ensures ∙ c.if-is_later_fall.false)
