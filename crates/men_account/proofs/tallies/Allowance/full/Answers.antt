use Rattle.std.proofs.Common.{sym}
use Rattle.men_account.proofs.FirstMen.{full}
use Rattle.men_account.proofs.tallies.Allowance.full.Goals as goal

pub returns-clause-homes : goal.returns-clause-homes
returns-clause-homes c = λ side. sym (full side)
