use Rattle.std.proofs.Common.{◌∙◌}
use Rattle.retro_search.proofs.Roots.{if_ok}
use Rattle.retro_search.proofs.Telling.{told_against, told_exactly, told_large, told_never_weaker, told_priced, told_short, told_spent, told_unpriced, told_unsettled}
use Rattle.retro_search.proofs.searchers.Searcher.settle.Goals as goal

pub returns-clause-short : goal.returns-clause-short
returns-clause-short c = if_ok c.answer.result _ _ (λ f. told_short c.args.claim.now c.args.query.now c.args.limits.depth c.args.limits.nodes _ f) c.answer.ensures.told

pub returns-clause-undecided : goal.returns-clause-undecided
returns-clause-undecided c = if_ok c.answer.result _ _ (λ f. told_unsettled c.args.claim.now c.args.query.now c.args.limits.depth c.args.limits.nodes _ f) c.answer.ensures.told

pub returns-clause-countered : goal.returns-clause-countered
returns-clause-countered c = if_ok c.answer.result _ _ (λ f. told_against c.args.claim.now c.args.query.now c.args.limits.depth c.args.limits.nodes _ f) c.answer.ensures.told

pub returns-clause-spent : goal.returns-clause-spent
returns-clause-spent c = if_ok c.answer.result _ _ (λ f. told_spent c.args.claim.now c.args.query.now c.args.limits.depth c.args.limits.nodes _ f) c.answer.ensures.told

pub returns-clause-never_weaker : goal.returns-clause-never_weaker
returns-clause-never_weaker c = if_ok c.answer.result _ _ (λ f. told_never_weaker c.args.claim.now c.args.query.now c.args.limits.depth c.args.limits.nodes _ f) c.answer.ensures.told

pub returns-clause-priced : goal.returns-clause-priced
returns-clause-priced c by some e =
    if_ok c.answer.result _ _ (λ f. told_priced c.args.claim.now c.args.query.now c.args.limits.depth c.args.limits.nodes _ f (c.self.view_is ∙ by) some e) c.answer.ensures.told

pub returns-clause-unpriced : goal.returns-clause-unpriced
returns-clause-unpriced c by few =
    if_ok c.answer.result _ _ (λ f. told_unpriced c.args.claim.now c.args.query.now c.args.limits.depth c.args.limits.nodes _ f (c.self.view_is ∙ by) few) c.answer.ensures.told

pub returns-clause-exactly : goal.returns-clause-exactly
returns-clause-exactly c by =
    if_ok c.answer.result _ _ (λ f. told_exactly c.args.claim.now c.args.query.now c.args.limits.depth c.args.limits.nodes _ f (c.self.view_is ∙ by)) c.answer.ensures.told

pub returns-clause-large : goal.returns-clause-large
returns-clause-large c = if_ok c.answer.result _ _ (λ f. told_large c.args.claim.now c.args.query.now c.args.limits.depth c.args.limits.nodes _ f) c.answer.ensures.told
