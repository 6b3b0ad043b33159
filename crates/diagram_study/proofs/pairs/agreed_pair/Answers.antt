use Rattle.diagram_study.proofs.Seeking.{pair_by}
use Rattle.diagram_study.proofs.pairs.agreed_pair.Goals as goal

pub returns-clause-found : goal.returns-clause-found
returns-clause-found c = λ most nodes is. pair_by c.args.subject.now.query c.with_both-query.result most nodes c.args.games.now.found.items c.args.found c.agreed-decided.result c.with_both-query.ensures is (c.agreed-decided.ensures.agrees most nodes)
