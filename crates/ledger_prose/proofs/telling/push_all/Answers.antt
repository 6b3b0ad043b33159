use Rattle.std.proofs.lemmas.Result.{IfOk-equal}
use Rattle.board_base.specs.declared.men.Colour.TheVariants.{White, Black}
use Rattle.ledger_prose.specs.Sentences.{closing, falls, opening, sentences_in}
use Rattle.ledger_prose.proofs.Spacing.{four-told}
use Rattle.ledger_prose.proofs.telling.push_all.Goals as goal

pub returns : goal.returns
returns c =
    IfOk-equal c.push_closing.result c.push_closing.new.out.items _ _ c.push_closing.ensures
    (four-told c.args.query.now (sentences_in opening c.args.query.now c.args.lines.now) (sentences_in (falls White) c.args.query.now c.args.lines.now) (sentences_in (falls Black) c.args.query.now c.args.lines.now) (sentences_in closing c.args.query.now c.args.lines.now) c.args.out.now.items _ _ _ c.in_ok-push_opening.ensures c.in_ok-push_falls.ensures c.in_ok-push_falls-2.ensures)
