use Rattle.std.proofs.Common.{sym, ◌∙◌}
use Rattle.std.proofs.lemmas.Result.{IfOk-equal}
use Rattle.ledger_prose.specs.Sentences.{are_untold, captured}
use Rattle.ledger_prose.proofs.Spacing.{due-said, none-said}
use Rattle.ledger_prose.proofs.telling.push_untold.Goals as goal

pub returns-then-not-are_untold : goal.returns-then-not-are_untold
returns-then-not-are_untold c = none-said c.args.query.now (are_untold c.args.side c.args.lines.now c.args.ways.now) (captured c.args.side c.args.ways.now) c.args.out.now.items (sym c.are_untold.ensures ∙ c.if-not-are_untold.true)

pub returns : goal.returns
returns c = IfOk-equal c.push_captured_sentence.result c.push_captured_sentence.new.out.items _ _ c.push_captured_sentence.ensures (due-said c.args.query.now (are_untold c.args.side c.args.lines.now c.args.ways.now) (captured c.args.side c.args.ways.now) c.args.out.now.items (sym c.are_untold.ensures ∙ c.if-not-are_untold.false))
