use Rattle.cert_checker.proofs.Answering.{rest_nodes}
use Rattle.cert_checker.proofs.laws.bad_text_goes_first.Goals as goal

pub returns : goal.returns
returns c = rest_nodes
