use Rattle.std.proofs.Common.{◌+◌, ℕ}
use Rattle.balance_rule.specs.LeastWays.{seen_by}
use Rattle.balance_rule.proofs.Seen.{home-inside}
use Rattle.sketch_account.proofs.Comers.{comes-pawn}
use Rattle.sketch_account.proofs.rows.pawn_cost.Goals as goal

pub returns-clause-value : goal.returns-clause-value
returns-clause-value c = λ o p R l ground comer out.
    let g = c.args.ground.now in
    let x = c.args.x.now in
    let h : ℕ = seen_by g.base.side (8 + c.args.f) in
    let on_board = home-inside g.base.side c.args.f c.requires in
    comes-pawn p g.base.frozen R g.base.side l h x.figure out x.goals x.manner.plain x.manner.other on_board comer.manner.plain comer.manner.other comer.goals c.least_to.result c.capped_sum.result
    (c.least_to.ensures.least p g.base.frozen h on_board (ground.base.reaches c.args.f _ c.requires out)) c.capped_sum.ensures
