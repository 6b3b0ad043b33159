use Rattle.std.proofs.Common.{sym, ◌∙◌}
use Rattle.ledger_prose.specs.Sentences.{names_square}
use Rattle.ledger_prose.proofs.Listing.{any-more}
use Rattle.ledger_prose.proofs.due.is_named.Goals as goal

pub loop-line-preserved : goal.loop-line-preserved
loop-line-preserved c =
    any-more (names_square c.args.query.now c.args.s) c.args.lines.now c.loop-line.line-index c.line-item.result c.loop-line-test.true c.line-item.is c.loop-line.invariant (sym c.names_square.ensures ∙ c.if-names_square.false)
