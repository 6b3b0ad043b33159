use Rattle.std.proofs.Common.{[], ◌∷◌, sym, ◌∙◌}
use Rattle.std.proofs.lemmas.Result.{IfOk-weaker}
use Rattle.position_report.specs.Open.{OpenClaim, if_open, open_as}
use Rattle.position_report.specs.Told.{AreTold}
use Rattle.position_report.specs.declared.runs.Run.{Run}
use Rattle.position_report.proofs.Open.{open-told, settled-untold}
use Rattle.position_report.proofs.unsettled.push_open.Goals as goal

pub returns-then-not-is_open : goal.returns-then-not-is_open
returns-then-not-is_open c =
    settled-untold c.args.query.now c.args.finding (open_as c.args.said.now c.args.at_target.now c.args.stuck.now) c.args.run c.args.out.now.items (sym c.is_open.ensures ∙ c.if-not-is_open.true)

pub returns : goal.returns
returns c =
    let q = c.args.query.now in
    let claim : OpenClaim = open_as c.args.said.now c.args.at_target.now c.args.stuck.now in
    let o = c.args.out.now.items in
    let n = c.push_claim.new.out.items in
    IfOk-weaker c.push_claim.result (λ (b : Run). AreTold q (claim ∷ []) c.args.run b o n) (λ (b : Run). AreTold q (if_open c.args.finding claim) c.args.run b o n)
    (λ b told. open-told q c.args.finding claim c.args.run b o n (sym c.is_open.ensures ∙ c.if-not-is_open.false) told)
    c.push_claim.ensures
