use Rattle.std.proofs.Common.{◌≡◌, List, ℕ, ap, sym, subst, ◌∙◌}
use Rattle.std.specs.Prelude.{IfSome}
use Rattle.board_base.specs.Board.{array_of, men_squares}
use Rattle.board_base.specs.declared.men.Colour.{Colour}
use Rattle.query_base.specs.Asked.{Asked}
use Rattle.assignment.specs.Assignments.{least_cost}
use Rattle.balance_rule.specs.Balance.{men_on}
use Rattle.ledger_rule.specs.Kept.{IsTableOf, nothing}
use Rattle.ledger_rule.proofs.Rowed.{side-told, table-told}
use Rattle.ledger_rule.proofs.sides.side_of.Goals as goal

pub returns : goal.returns
returns c =
    let q : Asked = c.args.query.now in
    let p = c.args.prices.now in
    let ground = c.ground_of-ground in
    let board = ap (λ (r : Asked). r.board) c.query.view_is in
    let begun : c.begun_with-begun.result ≡ men_on c.args.side (array_of q.odds) = c.begun_with-begun.ensures.number ∙ ap (λ (r : Asked). men_on c.args.side (array_of r.odds)) c.query.view_is in
    let begun_there : c.begun_with-begun.result ≡ men_on ground.result.side (array_of q.odds) = begun ∙ ap (λ (d : Colour). men_on d (array_of q.odds)) (sym ground.ensures.side) in
    let items = c.in_ok-rows.ensures.items q.odds p ground.ensures.ground begun_there in
    let told = side-told nothing q.odds p c.args.set ground.result.frozen c.args.side ground.result.side q.board c.query.inside.board c.in_ok-rows.rows.items c.begun_with-begun.result c.least_cost-cost.result ground.ensures.side ground.ensures.frozen board begun items (c.least_cost-cost.ensures.value ∙ ap (least_cost 16) c.as_slice.ensures.value) in
    let rows = table-told nothing q.odds p c.args.set ground.result.frozen c.args.side ground.result.side q.board c.query.inside.board c.in_ok-rows.rows.items ground.ensures.side ground.ensures.frozen board items.1 in
    record {
      side = ground.ensures.side;
      beside = ground.ensures.frozen;
      ground = ground.ensures.ground;
      begun = begun;
      sixteen = c.begun_with-begun.ensures.few;
      few = told.0;
      men = c.in_ok-men.ensures.1 ∙ ap (men_squares c.args.side) board;
      cost = told.1;
      table = subst (λ (l : List (List ℕ)). IfSome c.table_of.result (IsTableOf l)) rows c.table_of.ensures;
    }
