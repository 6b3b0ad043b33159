use Rattle.proof_sentences.proofs.unmoved.push_shut.Goals as goal

pub returns-then-list-eq3 : goal.returns-then-list-eq3
returns-then-list-eq3 c = rw c.if-list-eq3.true c.push_one_shut.ensures
