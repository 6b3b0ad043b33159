use Rattle.std.proofs.Common.{Some, None, sym, ◌∙◌}
use Rattle.std.proofs.lemmas.Bool.{cond-true, cond-false}
use Rattle.diagram_study.proofs.OneMove.{by_first, no_move}
use Rattle.diagram_study.proofs.retractions.one_move.Goals as goal

pub returns-then-have_move-clause-value : goal.returns-then-have_move-clause-value
returns-then-have_move-clause-value c =
    sym (by_first c.args.left.now c.in-Some.u (sym c.get-first.ensures ∙ c.in-Some.is) ∙ cond-true _ (Some c.in-Some.u.mv) None (sym c.have_move.ensures ∙ c.if-have_move.true))

pub returns-else-have_move-clause-value : goal.returns-else-have_move-clause-value
returns-else-have_move-clause-value c =
    sym (by_first c.args.left.now c.in-Some.u (sym c.get-first.ensures ∙ c.in-Some.is) ∙ cond-false _ (Some c.in-Some.u.mv) None (sym c.have_move.ensures ∙ c.if-have_move.false))

pub returns-in-None-clause-value : goal.returns-in-None-clause-value
returns-in-None-clause-value c = no_move c.args.left.now (sym c.get-first.ensures ∙ c.in-None.is)
