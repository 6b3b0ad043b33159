use Rattle.std.proofs.Common.{◌≡◌, ap, sym, ◌∙◌}
use Rattle.board_base.specs.Board.{array_of}
use Rattle.board_base.specs.declared.men.Colour.{Colour}
use Rattle.query_base.specs.Asked.{Asked}
use Rattle.assignment.specs.Assignments.{least_cost}
use Rattle.balance_rule.specs.Balance.{men_on}
use Rattle.ledger_rule.proofs.Rowed.{side-told}
use Rattle.ledger_rule.proofs.tables.side_cost.Goals as goal

pub returns-clause-value : goal.returns-clause-value
returns-clause-value c =
    let begun : c.begun_with-begun.result ≡ men_on c.args.side (array_of c.args.query.now.odds) = c.begun_with-begun.ensures.number ∙ ap (λ (q : Asked). men_on c.args.side (array_of q.odds)) c.query.view_is in
    let side : c.ground_of-ground.result.side ≡ c.args.side = c.ground_of-ground.ensures.side in
    let begun_there : c.begun_with-begun.result ≡ men_on c.ground_of-ground.result.side (array_of c.args.query.now.odds) = begun ∙ ap (λ (d : Colour). men_on d (array_of c.args.query.now.odds)) (sym side) in
    side-told c.args.supposition.now c.args.query.now.odds c.args.prices.now c.args.frozen c.ground_of-ground.result.frozen c.args.side c.ground_of-ground.result.side c.args.query.now.board _ c.in_ok-rows.rows.items c.begun_with-begun.result c.least_cost.result side c.ground_of-ground.ensures.frozen
    (ap (λ (q : Asked). q.board) c.query.view_is) begun (c.in_ok-rows.ensures.items c.args.query.now.odds c.args.prices.now c.ground_of-ground.ensures.ground begun_there) (c.least_cost.ensures.value ∙ ap (least_cost 16) c.as_slice.ensures.value)
