use Rattle.std.proofs.Common.{List, ℕ, ◌++◌, ap, ◌∙◌}
use Rattle.std.specs.Prelude.{codes}
use Rattle.std.proofs.lemmas.Result.{IfOk-equal}
use Rattle.ledger_prose.specs.Numbers.{number_words}
use Rattle.ledger_prose.specs.Words.{names_words}
use Rattle.ledger_prose.specs.declared.names.Joint.TheVariants.{And}
use Rattle.ledger_prose.specs.declared.names.Style.TheVariants.{Squares}
use Rattle.ledger_prose.proofs.Spacing.{five-pieces}
use Rattle.ledger_prose.proofs.men.push_some_of.Goals as goal

pub returns : goal.returns
returns c =
    let names : List ℕ = names_words And Squares c.args.query.now c.args.lines.now in
    let front : List ℕ = codes "At least " ++ number_words c.args.n ++ codes " of the men on " ++ names in
    IfOk-equal c.say-3.result c.say-3.new.out.items _ _ c.say-3.ensures
    (five-pieces c.args.out.now.items _ _ _ _ (codes "At least ") (number_words c.args.n) (codes " of the men on ") names c.chosen-ending.result.now c.in_ok-say.ensures c.in_ok-push_count.ensures c.in_ok-say-2.ensures c.in_ok-push_names.ensures
    ∙ ap (λ (l : List ℕ). c.args.out.now.items ++ (front ++ l)) c.chosen-ending.ensures)
