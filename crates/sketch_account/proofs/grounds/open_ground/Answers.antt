use Rattle.sketch_account.proofs.Opened.{opened}
use Rattle.sketch_account.proofs.grounds.open_ground.Goals as goal

pub returns-clause-ground : goal.returns-clause-ground
returns-clause-ground c = λ o p base. opened o p c.args.base base
