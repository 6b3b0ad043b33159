use Rattle.cert_checker.proofs.OneWalk.{one_walk}
use Rattle.cert_checker.proofs.laws.one_walk.Goals as goal

pub returns : goal.returns
returns c = one_walk
