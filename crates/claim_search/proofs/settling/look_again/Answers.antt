use Rattle.std.proofs.Common.{arith}
use Rattle.claim_search.proofs.Deciding.{by_game}
use Rattle.claim_search.proofs.settling.look_again.Goals as goal

pub returns-in-Some-clause-settlement : goal.returns-in-Some-clause-settlement
returns-in-Some-clause-settlement c =
    let short = rw c.in-Some.is at c.in_ok-game.ensures.short in
    by_game c.args.limits.depth c.args.limits.nodes c.args.claim.now c.args.query.now c.in-Some.game (rw c.in-Some.is at c.in_ok-game.ensures.against) (omega (arith, short))
