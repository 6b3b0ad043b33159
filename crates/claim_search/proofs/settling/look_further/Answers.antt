use Rattle.std.proofs.Common.{arith}
use Rattle.claim_search.proofs.Deciding.{by_game, uncounterable}
use Rattle.claim_search.proofs.settling.look_further.Goals as goal

pub returns-in-Countered-clause-settlement : goal.returns-in-Countered-clause-settlement
returns-in-Countered-clause-settlement c =
    let short = rw c.in-Countered.is at c.in_ok-solved.ensures.answer.short_game in
    by_game c.args.limits.depth c.args.limits.nodes c.args.claim.now c.args.query.now c.in-Countered.game (rw c.in-Countered.is at c.in_ok-solved.ensures.countered).contradicts (omega (arith, short))

pub look_again-requires-clause-uncounterable : goal.look_again-requires-clause-uncounterable
look_again-requires-clause-uncounterable c =
    uncounterable c.args.limits.depth c.args.limits.nodes c.args.claim.now c.args.query.now c.in_ok-solved.solved c.in_ok-solved.ensures.answer c.in_ok-solved.ensures.undecided c.in_ok-solved.ensures.spent c.in_default.not-Countered
