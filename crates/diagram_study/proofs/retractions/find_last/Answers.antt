use Rattle.std.proofs.Common.{ap, sym, ◌∙◌, subst}
use Rattle.std.specs.Prelude.{IsTrue, Some}
use Rattle.board_base.specs.Texts.{can_promote}
use Rattle.board_base.specs.declared.moves.Move.{Move}
use Rattle.diagram_study.proofs.OneMove.{all_have}
use Rattle.diagram_study.proofs.retractions.find_last.Goals as goal

pub find_move-requires-clause-all : goal.find_move-requires-clause-all
find_move-requires-clause-all c = all_have c.args.seen.now.left c.in-Some.m (sym c.one_move.ensures.value ∙ c.in-Some.is)

pub returns-in_ok-found-in-Some-clause-found : goal.returns-in_ok-found-in-Some-clause-found
returns-in_ok-found-in-Some-clause-found c = record {
  one = ap (λ (m : Move). Some m) c.in_ok-found-in-Some.ensures.move_is ∙ sym c.in-Some.is ∙ c.one_move.ensures.value;
  found = c.in_ok-found-in-Some.ensures.found;
}

pub returns-in_ok-found-in-Some-clause-text : goal.returns-in_ok-found-in-Some-clause-text
returns-in_ok-found-in-Some-clause-text c = subst (λ (m : Move). IsTrue (can_promote m.promo)) (sym c.in_ok-found-in-Some.ensures.move_is) c.in-Some.ensures.text

pub returns-in-None-clause-found : goal.returns-in-None-clause-found
returns-in-None-clause-found c = record { one = sym c.in-None.is ∙ c.one_move.ensures.value; found = tt }
