use Rattle.std.proofs.Common.{arith}
use Rattle.claim_search.proofs.Deciding.{by_game, unsketched}
use Rattle.claim_search.proofs.settling.seek.Goals as goal

pub returns-in-Proved-clause-counterable : goal.returns-in-Proved-clause-counterable
returns-in-Proved-clause-counterable c = λ can. absurd ((rw c.in-Proved.is at c.in_ok-cert.ensures.settlement.holds) can.game can.counter.contradicts)

pub returns-in-Countered-clause-settlement : goal.returns-in-Countered-clause-settlement
returns-in-Countered-clause-settlement c =
    let short = rw c.in-Countered.is at c.in_ok-cert.ensures.settlement.short_game in
    by_game c.args.limits.depth c.args.limits.nodes c.args.claim.now c.args.query.now c.in-Countered.game (rw c.in-Countered.is at c.in_ok-cert.ensures.settlement.countered) (omega (arith, short))

pub returns-in-Countered-clause-sketched : goal.returns-in-Countered-clause-sketched
returns-in-Countered-clause-sketched c = λ has.
    absurd (unsketched c.in-Countered.game c.args.claim.now c.args.query.now (rw c.in-Countered.is at c.in_ok-cert.ensures.settlement.countered) has)
