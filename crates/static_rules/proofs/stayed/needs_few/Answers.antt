use Rattle.std.proofs.Common.{ap}
use Rattle.std.proofs.lemmas.Bool.{leb-true}
use Rattle.query_base.specs.Asked.{Asked}
use Rattle.static_rules.proofs.AtHome.{ample-from, needed-from}
use Rattle.static_rules.proofs.stayed.needs_few.Goals as goal

pub returns-then-are_cheap : goal.returns-then-are_cheap
returns-then-are_cheap c h =
    let cheap = c.are_cheap.ensures c.if-are_cheap.true in
    ample-from c.args.query.now c.args.side c.args.set _ _ _ _ _ _ _ (ap (λ (q : Asked). q.odds) c.query.view_is) (ap (λ (q : Asked). q.board) c.query.view_is) c.other-enemy.ensures c.requires cheap.1 c.men_of-on_board.ensures.number c.begun_with-begun.ensures.number cheap.2

pub returns : goal.returns
returns c h =
    needed-from c.args.query.now c.args.side c.args.set _ _ _ _ _ _ _ _ _ _ (ap (λ (q : Asked). q.odds) c.query.view_is) (ap (λ (q : Asked). q.board) c.query.view_is) c.other-enemy.ensures c.array_of.ensures c.may_be_spent_of-spent.ensures.number c.requires c.low_cost.ensures.1 c.low_cost.ensures.2 c.men_of-on_board.ensures.number c.begun_with-begun.ensures.number (leb-true _ _ h)
