use Rattle.std.proofs.Common.{[], refl, subst}
use Rattle.query_base.specs.Reach.{Holds}
use Rattle.query_base.specs.Targets.{target}
use Rattle.query_base.specs.declared.claims.Claim.{Claim}
use Rattle.position_report.specs.Lone.{IsAfforded, IsDear}
use Rattle.position_report.specs.Refutable.{IsRefutable}
use Rattle.command_answers.proofs.verdicts.decide.Goals as goal

pub returns : goal.returns
returns c =
    subst (λ (claim : Claim). IsDear c.args.limits.depth c.args.limits.nodes claim c.args.position.now.query) c.claim_of.ensures (rw c.in-Spent.is at c.in-Ok.ensures.spent)

pub returns-in-Proved : goal.returns-in-Proved
returns-in-Proved c =
    let refutable = (rw c.in-Proved.is at c.in-Ok.ensures.exactly).0 tt in
    let holds = rw c.in-Proved.is at c.in-Ok.ensures.answer.holds in
    let afforded = rw c.in-Proved.is at c.in-Ok.ensures.afforded in
    let said = subst (λ (claim : Claim). IsRefutable (target c.args.position.now.query claim) c.args.limits.depth [] × Holds claim c.args.position.now.query × IsAfforded c.args.limits.depth c.args.limits.nodes claim c.args.position.now.query) c.claim_of.ensures (refutable, holds, afforded) in
    record { exactly = (λ is. said.0, λ is. refl); holds = λ is. said.1; afforded = λ is. said.2 }
