use Rattle.std.proofs.Common.{ℕ, ◌≡◌, List, ◌++◌, sym, subst}
use Rattle.std.specs.Prelude.{IfOk}
use Rattle.diagram_study.specs.declared.findings.Findings.{Findings}
use Rattle.position_report.specs.Reports.{TellsFindings}
use Rattle.position_report.proofs.Saying.{proved-holds}
use Rattle.query_base.specs.declared.claims.Claim.TheVariants.{Illegal}
use Rattle.position_report.proofs.reporting.push_findings.Goals as goal

pub push_impossible-requires-clause-shown : goal.push_impossible-requires-clause-shown
push_impossible-requires-clause-shown c =
    let found = rw c.in-Impossible.is at c.requires.found in
    proved-holds c.args.query.now Illegal c.args.limits.depth c.args.limits.nodes _ found.0 found.1

pub push_impossible-requires-clause-against : goal.push_impossible-requires-clause-against
push_impossible-requires-clause-against c =
    let found = rw c.in-Impossible.is at c.requires.found in
    found.2

pub returns-in-Unproved : goal.returns-in-Unproved
returns-in-Unproved c =
    subst (λ (f : Findings). IfOk c.push_found.result (λ _. (own : List ℕ) × TellsFindings c.args.query.now c.args.limits.depth c.args.limits.nodes c.args.games.now f own × (c.push_found.new.out.items ≡ c.args.out.now.items ++ own))) (sym c.in-Unproved.is) c.push_found.ensures
