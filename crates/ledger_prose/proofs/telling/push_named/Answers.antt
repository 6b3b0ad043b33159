use Rattle.std.proofs.Common.{sym, ◌∙◌}
use Rattle.std.proofs.lemmas.Result.{IfOk-equal}
use Rattle.std.specs.Prelude.{nat_lt}
use Rattle.ledger_prose.specs.Sentences.{number_named, together}
use Rattle.ledger_prose.proofs.Spacing.{due-said, none-said}
use Rattle.ledger_prose.proofs.telling.push_named.Goals as goal

pub returns-then-not-names_some : goal.returns-then-not-names_some
returns-then-not-names_some c = none-said c.args.query.now (nat_lt 0 (number_named c.args.query.now c.args.kept.now)) (together c.args.group c.args.kept.now) c.args.out.now.items (sym c.names_some.ensures ∙ c.if-not-names_some.true)

pub returns : goal.returns
returns c = IfOk-equal c.push_group_sentence.result c.push_group_sentence.new.out.items _ _ c.push_group_sentence.ensures (due-said c.args.query.now (nat_lt 0 (number_named c.args.query.now c.args.kept.now)) (together c.args.group c.args.kept.now) c.args.out.now.items (sym c.names_some.ensures ∙ c.if-not-names_some.false))
