use Rattle.ledger_facts.proofs.Known.{gone-so, never-promoted, struck-so, unstruck-so, was-promoted}
use Rattle.ledger_facts.proofs.lines.fates_are_known.Goals as goal

pub returns-clause-gone : goal.returns-clause-gone
returns-clause-gone c = λ q side h home up down g leads. gone-so q side h home g leads up down

pub returns-clause-struck : goal.returns-clause-struck
returns-clause-struck c = λ q side h home up down later sooner g leads. struck-so q side h home g leads up down later sooner

pub returns-clause-unstruck : goal.returns-clause-unstruck
returns-clause-unstruck c = λ q side h home later sooner g leads fell. unstruck-so q side h home g leads later sooner fell

pub returns-clause-unpromoted : goal.returns-clause-unpromoted
returns-clause-unpromoted c = λ q side h home up struck unstruck g leads. never-promoted q side h home g leads up struck unstruck

pub returns-clause-promoted : goal.returns-clause-promoted
returns-clause-promoted c = λ q side h home up struck unstruck g leads. was-promoted q side h home g leads up struck unstruck
