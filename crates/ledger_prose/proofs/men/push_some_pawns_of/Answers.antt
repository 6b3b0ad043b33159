use Rattle.std.proofs.Common.{Bool, List, ℕ, ◌++◌, cond, ap, ◌∙◌}
use Rattle.std.specs.Prelude.{codes}
use Rattle.std.proofs.lemmas.Result.{IfOk-equal}
use Rattle.prose_words.specs.Words.{side_word}
use Rattle.ledger_prose.specs.Words.{names_words}
use Rattle.ledger_prose.specs.declared.names.Joint.TheVariants.{And}
use Rattle.ledger_prose.specs.declared.names.Style.TheVariants.{Files}
use Rattle.ledger_prose.proofs.Spacing.{four-pieces}
use Rattle.ledger_prose.proofs.men.push_some_pawns_of.Goals as goal

pub returns : goal.returns
returns c =
    let names : List ℕ = names_words And Files c.args.query.now c.args.lines.now in
    let front : List ℕ = side_word c.args.side ++ codes "'s " ++ names in
    IfOk-equal c.say-3.result c.say-3.new.out.items _ _ c.say-3.ensures
    (four-pieces c.args.out.now.items _ _ _ (side_word c.args.side) (codes "'s ") names c.chosen-ending.result.now (c.in_ok-say.ensures ∙ ap (λ (l : List ℕ). c.args.out.now.items ++ l) c.side_word.ensures) c.in_ok-say-2.ensures c.in_ok-push_names.ensures
    ∙ ap (λ (l : List ℕ). c.args.out.now.items ++ (front ++ l)) (c.chosen-ending.ensures ∙ ap (λ (b : Bool). cond b (codes "pawn was ") (codes "pawns were ")) c.is_single.ensures))
