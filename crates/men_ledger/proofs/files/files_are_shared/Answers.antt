use Rattle.men_ledger.proofs.Fallen.{untaken-keeps}
use Rattle.men_ledger.proofs.Gates.{gates-most, trodden-once}
use Rattle.men_ledger.proofs.files.files_are_shared.Goals as goal

pub returns-clause-apart : goal.returns-clause-apart
returns-clause-apart c = trodden-once

pub returns-clause-gates : goal.returns-clause-gates
returns-clause-gates c = gates-most

pub returns-clause-untaken : goal.returns-clause-untaken
returns-clause-untaken c = untaken-keeps
