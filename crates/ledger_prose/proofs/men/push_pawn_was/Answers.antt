use Rattle.std.proofs.Common.{List, ℕ, ◌++◌, ap, sym, ◌∙◌}
use Rattle.std.specs.Prelude.{codes}
use Rattle.std.proofs.lemmas.Bool.{cond-false}
use Rattle.std.proofs.lemmas.Result.{IfOk-equal}
use Rattle.ledger_prose.specs.Words.{names_words}
use Rattle.ledger_prose.specs.declared.names.Joint.TheVariants.{Or}
use Rattle.ledger_prose.specs.declared.names.Style.TheVariants.{Squares}
use Rattle.ledger_prose.proofs.Spacing.{two-pieces}
use Rattle.ledger_prose.proofs.men.push_pawn_was.Goals as goal

pub returns-in_ok-say : goal.returns-in_ok-say
returns-in_ok-say c =
    let names : List ℕ = names_words Or Squares c.args.query.now c.args.lines.now in
    IfOk-equal c.push_names.result c.push_names.new.out.items _ _ c.push_names.ensures
    (two-pieces c.args.out.now.items _ (codes "the promoted pawn of ") names c.in_ok-say.ensures ∙ ap (λ (l : List ℕ). c.args.out.now.items ++ l) (sym (cond-false c.args.many (codes "a promoted pawn") (codes "the promoted pawn of " ++ names) c.if-many.false)))
