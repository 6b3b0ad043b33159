use Rattle.std.proofs.Common.{sym, ◌∙◌}
use Rattle.std.proofs.lemmas.Result.{IfOk-equal}
use Rattle.ledger_prose.specs.Sentences.{group_lines, is_taken, took}
use Rattle.ledger_prose.specs.declared.parts.Group.TheVariants.{Captors}
use Rattle.ledger_prose.proofs.Spacing.{due-said, none-said}
use Rattle.ledger_prose.proofs.telling.push_captures.Goals as goal

pub returns-then-not-is_taken : goal.returns-then-not-is_taken
returns-then-not-is_taken c = none-said c.args.query.now (is_taken c.args.side c.args.line.now) (took c.args.line.now (group_lines (Captors c.args.side) c.args.query.now c.args.lines.now)) c.args.out.now.items (sym c.is_taken.ensures ∙ c.if-not-is_taken.true)

pub returns : goal.returns
returns c = IfOk-equal c.push_took_line.result c.push_took_line.new.out.items _ _ c.push_took_line.ensures (due-said c.args.query.now (is_taken c.args.side c.args.line.now) (took c.args.line.now (group_lines (Captors c.args.side) c.args.query.now c.args.lines.now)) c.args.out.now.items (sym c.is_taken.ensures ∙ c.if-not-is_taken.false))
