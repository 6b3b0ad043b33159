use Rattle.cert_checker.proofs.Contradicted.{proved_holds}
use Rattle.cert_checker.proofs.laws.certificates_prove.Goals as goal

pub returns : goal.returns
returns c = proved_holds
