use Rattle.std.proofs.Common.{◌∙◌}
use Rattle.retro_search.proofs.Roots.{if_ok}
use Rattle.retro_search.proofs.SharedLines.{still_comes, still_paid, still_stopped}
use Rattle.retro_search.proofs.Telling.{answered, told_by}
use Rattle.retro_search.proofs.Trees.Refuting.{refutes_whole}
use Rattle.retro_search.proofs.answering.answer.Goals as goal

pub with_lines_shared-shared-requires : goal.with_lines_shared-shared-requires
with_lines_shared-shared-requires c =
    if_ok c.refute-came.result _ _ (λ r is. (refutes_whole r _ _ _ is).proves) c.refute-came.ensures.comes.refuted

pub told-requires : goal.told-requires
told-requires c = still_stopped _ _ _ _ c.with_lines_shared-shared.ensures.shared tt c.refute-came.ensures.small

pub returns-clause-told : goal.returns-clause-told
returns-clause-told c =
    let after = c.with_lines_shared-shared.ensures in
    let came = c.refute-came.ensures in
    let comes = still_comes c.refute-came.result c.with_lines_shared-shared.result c.target-asked.result c.args.limits.depth c.args.limits.nodes c.args.run.now.reasons after.shared (λ by. after.lined (came.reasons ∙ by)) came.comes in
    if_ok c.told.result _ _ (λ f. told_by c.args.claim.now c.args.query.now c.target-asked.result c.args.limits.depth c.args.limits.nodes c.args.run.now c.with_lines_shared-shared.result f c.target-asked.ensures.query c.target-asked.ensures.contradicted comes (λ by fresh. still_paid c.refute-came.result c.with_lines_shared-shared.result c.target-asked.result c.args.limits.depth c.args.limits.nodes (after.lined (came.reasons ∙ by)) (came.lone by fresh))) c.told.ensures

pub returns-clause-answer : goal.returns-clause-answer
returns-clause-answer c =
    let after = c.with_lines_shared-shared.ensures in
    let came = c.refute-came.ensures in
    let comes = still_comes c.refute-came.result c.with_lines_shared-shared.result c.target-asked.result c.args.limits.depth c.args.limits.nodes c.args.run.now.reasons after.shared (λ by. after.lined (came.reasons ∙ by)) came.comes in
    if_ok c.told.result _ _ (λ f tells. answered c.args.claim.now c.args.query.now c.args.limits.depth c.args.limits.nodes c.args.run.now f c.are_known.ensures.query c.are_known.ensures.claim c.requires.unbarred c.args.limits.shallow
    (told_by c.args.claim.now c.args.query.now c.target-asked.result c.args.limits.depth c.args.limits.nodes c.args.run.now c.with_lines_shared-shared.result f c.target-asked.ensures.query c.target-asked.ensures.contradicted comes (λ by fresh. still_paid c.refute-came.result c.with_lines_shared-shared.result c.target-asked.result c.args.limits.depth c.args.limits.nodes (after.lined (came.reasons ∙ by)) (came.lone by fresh)) tells)) c.told.ensures
