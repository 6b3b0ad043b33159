use Rattle.claim_search.proofs.Deciding.{decided}
use Rattle.claim_search.proofs.settling.search_long.Goals as goal

pub returns-then-is_decided-clause-counterable : goal.returns-then-is_decided-clause-counterable
returns-then-is_decided-clause-counterable c =
    decided c.args.limits.depth c.args.limits.nodes c.args.claim.now c.args.query.now c.in_ok-found.found c.in_ok-found.ensures.settlement (c.is_decided.ensures c.if-is_decided.true)
