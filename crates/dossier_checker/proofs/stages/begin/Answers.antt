use Rattle.std.proofs.Common.{◌++◌, inl, inr, sym}
use Rattle.std.proofs.lemmas.Option.{same_Some}
use Rattle.std.proofs.lemmas.Result.{err_from_is_err_and}
use Rattle.dossier_checker.proofs.HeadFronts.{headed, no_head}
use Rattle.dossier_checker.proofs.stages.begin.Goals as goal

pub returns-in_default-clause-rest : goal.returns-in_default-clause-rest
returns-in_default-clause-rest c = λ bytes a all e.
    inl (no_head c.args.front.now bytes all c.in_default.ensures, sym (same_Some _ _ e))

pub returns-in-Some-unlisted_step-clause-rest : goal.returns-in-Some-unlisted_step-clause-rest
returns-in-Some-unlisted_step-clause-rest c = λ bytes a all e.
    let head = c.in-Some.head in
    headed c.args.front.now head.rest.now bytes head.claim head.query a c.in-Some.ensures (inl (c.in-Some-unlisted_step.step, c.in-Some-unlisted_step.ensures, sym (same_Some _ _ e)))

pub returns-in_err-feed-clause-rest : goal.returns-in_err-feed-clause-rest
returns-in_err-feed-clause-rest c =
    let returned = err_from_is_err_and c.from_residual.result c.from_residual.ensures.1 in
    rw (returned.1, returned.2) (λ bytes a all e.
    let head = c.in-Some.head in
    headed c.args.front.now head.rest.now bytes head.claim head.query a c.in-Some.ensures (inr (c.in_default-unlisted_step.ensures, c.new-parts.ensures (head.rest.now ++ bytes) a (c.in_err-feed.ensures.rest bytes a e))))

pub returns-clause-rest : goal.returns-clause-rest
returns-clause-rest c = λ bytes a all rest.
    let head = c.in-Some.head in
    headed c.args.front.now head.rest.now bytes head.claim head.query a c.in-Some.ensures (inr (c.in_default-unlisted_step.ensures, c.new-parts.ensures (head.rest.now ++ bytes) a (c.in_ok-feed.ensures.rest bytes a rest)))
