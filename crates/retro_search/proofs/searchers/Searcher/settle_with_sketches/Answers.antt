use Rattle.retro_search.proofs.Roots.{if_ok}
use Rattle.retro_search.proofs.Telling.{told_against, told_never_weaker, told_short, told_unsettled}
use Rattle.retro_search.proofs.searchers.Searcher.settle_with_sketches.Goals as goal

pub returns-clause-short : goal.returns-clause-short
returns-clause-short c = if_ok c.answer-found.result _ _ (λ f. told_short c.args.claim.now c.args.query.now c.args.limits.depth c.args.limits.nodes _ f) c.answer-found.ensures.told

pub returns-clause-undecided : goal.returns-clause-undecided
returns-clause-undecided c = if_ok c.answer-found.result _ _ (λ f. told_unsettled c.args.claim.now c.args.query.now c.args.limits.depth c.args.limits.nodes _ f) c.answer-found.ensures.told

pub returns-clause-countered : goal.returns-clause-countered
returns-clause-countered c = if_ok c.answer-found.result _ _ (λ f. told_against c.args.claim.now c.args.query.now c.args.limits.depth c.args.limits.nodes _ f) c.answer-found.ensures.told

pub returns-clause-never_weaker : goal.returns-clause-never_weaker
returns-clause-never_weaker c = if_ok c.answer-found.result _ _ (λ f. told_never_weaker c.args.claim.now c.args.query.now c.args.limits.depth c.args.limits.nodes _ f) c.answer-found.ensures.told
