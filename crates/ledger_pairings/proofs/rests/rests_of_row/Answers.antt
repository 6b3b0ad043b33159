use Rattle.std.proofs.Common.{◌≡◌, arith}
use Rattle.assignment.specs.Tables.{cost_at}
use Rattle.ledger_pairings.proofs.Bounds.{bounded}
use Rattle.ledger_pairings.proofs.rests.rests_of_row.Goals as goal

pub rest_by-requires-clause-fair : goal.rest_by-requires-clause-fair
rest_by-requires-clause-fair c = λ others h has.
    let fair = c.are_fair.ensures c.if-not-are_fair.false in
    let cell : c.from.result ≡ cost_at c.args.rows.now c.args.i c.loop-j.j = c.from.ensures in
    let most = bounded c.args.rows.now c.dues_of-dues.result c.exchanges_from-exchanges.result.prices c.args.i c.loop-j.j c.from.result c.told-rows c.dues_of-dues.ensures.size c.exchanges_from-exchanges.ensures c.requires.row fair c.dues_of-dues.ensures.nothing cell others h has in
    omega (arith, most, c.total-paid.ensures.value, c.total-above.ensures.value, c.from-in-loop-j.ensures)
