use Rattle.cert_checker.proofs.Proofs.{walk_proves}
use Rattle.cert_checker.proofs.laws.walk_proves.Goals as goal

pub returns : goal.returns
returns c = walk_proves
