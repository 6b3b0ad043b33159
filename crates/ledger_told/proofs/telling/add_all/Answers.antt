use Rattle.ledger_told.proofs.Joining.{all-told, ok_then}
use Rattle.ledger_told.proofs.telling.add_all.Goals as goal

pub returns : goal.returns
returns c =
    ok_then c.add_each-8.result _ _
    (all-told c.args.query.now c.args.ledger.now c.args.set _ _ _ _ _ _ _ _ _ _ _ _ _ _ _ _ _ _ c.in_ok-add_whole.ensures c.in_ok-add_whole-2.ensures c.in_ok-add_whole-3.ensures c.in_ok-add_whole-4.ensures c.in_ok-add_whole-5.ensures c.in_ok-add_each.ensures c.in_ok-add_each-2.ensures c.in_ok-add_each-3.ensures c.in_ok-add_each-4.ensures c.in_ok-add_whole-6.ensures c.in_ok-add_whole-7.ensures c.in_ok-add_each-5.ensures c.in_ok-add_each-6.ensures c.in_ok-add_among.ensures c.in_ok-add_among-2.ensures c.in_ok-add_each-7.ensures)
    c.add_each-8.ensures
