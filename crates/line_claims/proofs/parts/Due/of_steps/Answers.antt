use Rattle.std.proofs.Common.{◌≡◌, ◌≤◌, ◌*◌, ◌++◌, List, length, ap, ◌∙◌, arith}
use Rattle.board_base.specs.declared.unmoves.Unmove.{Unmove}
use Rattle.query_base.specs.Asked.{Asked}
use Rattle.query_base.specs.declared.claims.Claim.{Claim}
use Rattle.line_claims.specs.Due.{parts_of_steps}
use Rattle.line_claims.proofs.Counting.{steps_few}
use Rattle.line_claims.proofs.parts.Due.of_steps.Goals as goal

pub returns-clause-few : goal.returns-clause-few
returns-clause-few c =
    let parts : length (c.nothing.result ++ parts_of_steps c.args.query.now c.of.result) ≡ length (parts_of_steps c.args.query.now c.args.steps.now) =
    ap (λ (l : List (Claim × Asked)). length (l ++ parts_of_steps c.args.query.now c.of.result)) c.nothing.ensures ∙ ap (λ (us : List Unmove). length (parts_of_steps c.args.query.now us)) c.of.ensures.steps in
    let few : length (parts_of_steps c.args.query.now c.args.steps.now) ≤ 7 * length c.args.steps.now = steps_few c.args.steps.now c.args.query.now c.requires in
    let sixteen : length c.args.steps.now ≤ 16 = c.of.ensures.few in
    omega (arith, parts)
