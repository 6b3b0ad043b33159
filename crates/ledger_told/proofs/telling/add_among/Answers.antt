use Rattle.ledger_told.proofs.Joining.{among-told, ok_then}
use Rattle.ledger_told.proofs.telling.add_among.Goals as goal

pub returns : goal.returns
returns c =
    ok_then c.add_whole-5.result _ _
    (among-told c.args.side c.args.query.now c.args.ledger.now c.args.set _ _ _ _ _ _ c.in_ok-add_whole.ensures c.in_ok-add_whole-2.ensures c.in_ok-add_whole-3.ensures c.in_ok-add_whole-4.ensures)
    c.add_whole-5.ensures
