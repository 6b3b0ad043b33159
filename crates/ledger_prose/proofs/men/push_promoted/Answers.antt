use Rattle.std.proofs.Common.{List, [], ◌∷◌, ℕ, ◌++◌, ap, ◌∙◌}
use Rattle.std.specs.Prelude.{codes, nat_lt}
use Rattle.std.proofs.lemmas.Result.{IfOk-equal}
use Rattle.ledger_lines.specs.declared.lines.Line.{Line}
use Rattle.ledger_lines.specs.declared.lines.Line.TheVariants.{Promoted}
use Rattle.ledger_prose.specs.Words.{pawn_was, square_words}
use Rattle.ledger_prose.specs.declared.names.Style.TheVariants.{Standing}
use Rattle.ledger_prose.proofs.Spacing.{four-pieces}
use Rattle.ledger_prose.proofs.men.push_promoted.Goals as goal

pub returns : goal.returns
returns c =
    let lines : List Line = Promoted c.args.s c.args.homes ∷ [] in
    let front : List ℕ = codes "The " ++ square_words Standing c.args.query.now c.args.s ++ codes " is " in
    IfOk-equal c.push_pawn_was.result c.push_pawn_was.new.out.items _ _ c.push_pawn_was.ensures
    (four-pieces c.args.out.now.items _ _ _ (codes "The ") (square_words Standing c.args.query.now c.args.s) (codes " is ") (pawn_was (nat_lt 3 c.number_named-many.result) c.args.query.now lines) c.in_ok-say.ensures c.in_ok-push_square_words.ensures c.in_ok-say-2.ensures
    ∙ ap (λ (n : ℕ). c.args.out.now.items ++ (front ++ pawn_was (nat_lt 3 n) c.args.query.now lines)) c.number_named-many.ensures)
