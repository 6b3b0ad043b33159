use Rattle.std.proofs.Common.{ap}
use Rattle.std.proofs.lemmas.Bool.{leb-true}
use Rattle.query_base.specs.Asked.{Asked}
use Rattle.static_rules.proofs.AtHome.{few-from, few-men-from}
use Rattle.static_rules.proofs.stayed.has_few.Goals as goal

pub returns-then-are_few : goal.returns-then-are_few
returns-then-are_few c h =
    few-men-from c.args.query.now c.args.side _ _ _ c.allowance.result (ap (λ (q : Asked). q.odds) c.query.view_is) (ap (λ (q : Asked). q.board) c.query.view_is) c.counts-men.ensures c.allowance.ensures (c.are_few.ensures c.if-are_few.true)

pub returns : goal.returns
returns c h =
    few-from c.args.query.now c.args.side _ _ _ c.stayed_allowance-allowed.result _ (ap (λ (q : Asked). q.odds) c.query.view_is) (ap (λ (q : Asked). q.board) c.query.view_is) c.counts-men.ensures c.stayed_allowance-allowed.ensures c.excess.ensures (leb-true _ _ h)
