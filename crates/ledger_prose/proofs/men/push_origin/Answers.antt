use Rattle.std.specs.Prelude.{codes}
use Rattle.std.proofs.lemmas.Result.{IfOk-equal}
use Rattle.board_base.specs.Texts.{square_text}
use Rattle.ledger_prose.specs.Words.{square_words}
use Rattle.ledger_prose.specs.declared.names.Style.TheVariants.{Standing}
use Rattle.ledger_prose.proofs.Spacing.{four-pieces}
use Rattle.ledger_prose.proofs.men.push_origin.Goals as goal

pub returns : goal.returns
returns c =
    IfOk-equal c.push_square.result c.push_square.new.out.items _ _ c.push_square.ensures
    (four-pieces c.args.out.now.items _ _ _ (codes "The ") (square_words Standing c.args.query.now c.args.s) (codes " is that of ") (square_text c.args.h) c.in_ok-say.ensures c.in_ok-push_square_words.ensures c.in_ok-say-2.ensures)
