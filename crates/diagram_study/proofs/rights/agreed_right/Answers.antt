use Rattle.diagram_study.proofs.Seeking.{right_by}
use Rattle.diagram_study.proofs.rights.agreed_right.Goals as goal

pub returns-clause-found : goal.returns-clause-found
returns-clause-found c = λ most nodes is. right_by c.args.subject.now.query c.claim_of.result most nodes c.args.games.now.found.items c.args.found c.agreed-decided.result c.claim_of.ensures is (c.agreed-decided.ensures.agrees most nodes)
