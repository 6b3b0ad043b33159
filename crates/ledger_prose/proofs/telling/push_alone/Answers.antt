use Rattle.std.proofs.lemmas.Result.{IfOk-equal}
use Rattle.ledger_prose.specs.Sentences.{alone}
use Rattle.ledger_prose.proofs.Spacing.{due-said, none-said}
use Rattle.ledger_prose.proofs.telling.push_alone.Goals as goal

pub returns-then-not-due : goal.returns-then-not-due
returns-then-not-due c = none-said c.args.query.now (c.args.due) (alone c.args.line.now) c.args.out.now.items (c.if-not-due.true)

pub returns : goal.returns
returns c = IfOk-equal c.push_line_sentence.result c.push_line_sentence.new.out.items _ _ c.push_line_sentence.ensures (due-said c.args.query.now (c.args.due) (alone c.args.line.now) c.args.out.now.items (c.if-not-due.false))
