use Rattle.std.proofs.Common.{sym, ◌∙◌}
use Rattle.std.proofs.lemmas.Result.{IfOk-equal}
use Rattle.std.specs.Prelude.{◌&&◌}
use Rattle.std.specs.List.{filter}
use Rattle.board_base.specs.declared.men.Colour.TheVariants.{White, Black}
use Rattle.ledger_prose.specs.Sentences.{are_all_taken, has_taken_all, needed}
use Rattle.ledger_prose.proofs.Spacing.{due-said, none-said}
use Rattle.ledger_prose.proofs.telling.push_spare.Goals as goal

pub returns-then-not-is_needed : goal.returns-then-not-is_needed
returns-then-not-is_needed c = none-said c.args.query.now (are_all_taken White c.args.line.now && has_taken_all Black c.args.lines.now) (needed c.args.line.now (filter (are_all_taken Black) c.args.lines.now)) c.args.out.now.items (sym c.is_needed.ensures ∙ c.if-not-is_needed.true)

pub returns : goal.returns
returns c = IfOk-equal c.say.result c.say.new.out.items _ _ c.say.ensures (due-said c.args.query.now (are_all_taken White c.args.line.now && has_taken_all Black c.args.lines.now) (needed c.args.line.now (filter (are_all_taken Black) c.args.lines.now)) c.args.out.now.items (sym c.is_needed.ensures ∙ c.if-not-is_needed.false))
