use Rattle.std.proofs.lemmas.Result.{IfOk-weaker}
use Rattle.claim_findings.proofs.Agreeing.{grown_on}
use Rattle.claim_findings.proofs.deciding.look.Goals as goal

pub returns-in-Open-clause-grows : goal.returns-in-Open-clause-grows
returns-in-Open-clause-grows c = IfOk-weaker c.stay_open.result _ _ (λ d on. grown_on c.in_ok-reach.ensures.grows on) c.stay_open.ensures.grows
