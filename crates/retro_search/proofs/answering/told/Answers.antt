use Rattle.retro_search.proofs.Roots.{if_ok}
use Rattle.retro_search.proofs.Telling.{line_told}
use Rattle.retro_search.proofs.answering.told.Goals as goal

pub returns-in-Err-Open : goal.returns-in-Err-Open
returns-in-Err-Open c =
    if_ok c.open_answer.result _ _ (λ f told. line_told c.args.claim.now c.args.query.now c.args.nodes c.args.came c.in-Err-Open.line f (rw c.in-Err-Open.field-0-is at c.in-Err-Open.is) told) c.open_answer.ensures
