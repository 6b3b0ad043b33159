use Rattle.retro_search.proofs.Roots.{if_ok}
use Rattle.retro_search.proofs.Telling.{told_afforded, told_countered, told_dear, told_exactly, told_lined, told_undecided}
use Rattle.retro_search.proofs.solving.solve.Goals as goal

pub returns-clause-lined : goal.returns-clause-lined
returns-clause-lined c = if_ok c.answer.result _ _ (λ f. told_lined c.args.claim.now c.args.query.now c.args.depth c.args.nodes _ f c.new-run.ensures.reasons) c.answer.ensures.told

pub returns-clause-exactly : goal.returns-clause-exactly
returns-clause-exactly c = if_ok c.answer.result _ _ (λ f. told_exactly c.args.claim.now c.args.query.now c.args.depth c.args.nodes _ f c.new-run.ensures.reasons) c.answer.ensures.told

pub returns-clause-undecided : goal.returns-clause-undecided
returns-clause-undecided c = if_ok c.answer.result _ _ (λ f. told_undecided c.args.claim.now c.args.query.now c.args.depth c.args.nodes _ f c.new-run.ensures.reasons) c.answer.ensures.told

pub returns-clause-countered : goal.returns-clause-countered
returns-clause-countered c = if_ok c.answer.result _ _ (λ f. told_countered c.args.claim.now c.args.query.now c.args.depth c.args.nodes _ f c.new-run.ensures.reasons) c.answer.ensures.told

pub returns-clause-afforded : goal.returns-clause-afforded
returns-clause-afforded c =
    if_ok c.answer.result _ _ (λ f. told_afforded c.args.claim.now c.args.query.now c.args.depth c.args.nodes _ f c.new-run.ensures.reasons c.new-run.ensures.fresh) c.answer.ensures.told

pub returns-clause-spent : goal.returns-clause-spent
returns-clause-spent c =
    if_ok c.answer.result _ _ (λ f. told_dear c.args.claim.now c.args.query.now c.args.depth c.args.nodes _ f c.new-run.ensures.reasons c.new-run.ensures.fresh) c.answer.ensures.told
