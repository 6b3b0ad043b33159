use Rattle.std.proofs.Common.{◌≡◌, false}
use Rattle.claim_findings.specs.Findings.{is_proved}
use Rattle.diagram_study.proofs.JoinedTrees.{joined_found}
use Rattle.diagram_study.proofs.joining.joined_up.Goals as goal

pub returns-in-Some-clause-found : goal.returns-in-Some-clause-found
returns-in-Some-clause-found c =
    let unproved : is_proved c.args.sought ≡ false = cc in
    joined_found c.args.subject.now.query c.args.but c.args.subject.now.limits.depth c.args.subject.now.limits.nodes c.in-Some.height c.args.sought c.args.subject.now.plain c.requires.sought unproved c.in-Some.ensures.proof
