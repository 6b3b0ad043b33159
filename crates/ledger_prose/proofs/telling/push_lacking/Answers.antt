use Rattle.std.proofs.Common.{sym, ◌∙◌}
use Rattle.std.proofs.lemmas.Result.{IfOk-equal}
use Rattle.ledger_prose.specs.Sentences.{is_lacking, lacks}
use Rattle.ledger_prose.proofs.Spacing.{due-said, none-said}
use Rattle.ledger_prose.proofs.telling.push_lacking.Goals as goal

pub returns-then-not-is_lacking : goal.returns-then-not-is_lacking
returns-then-not-is_lacking c = none-said c.args.query.now (is_lacking c.args.side c.args.line.now) (lacks c.args.line.now) c.args.out.now.items (sym c.is_lacking.ensures ∙ c.if-not-is_lacking.true)

pub returns : goal.returns
returns c = IfOk-equal c.push_lacks_sentence.result c.push_lacks_sentence.new.out.items _ _ c.push_lacks_sentence.ensures (due-said c.args.query.now (is_lacking c.args.side c.args.line.now) (lacks c.args.line.now) c.args.out.now.items (sym c.is_lacking.ensures ∙ c.if-not-is_lacking.false))
