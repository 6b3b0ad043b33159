use Rattle.cert_checker.proofs.OneText.{one_answer}
use Rattle.cert_checker.proofs.laws.one_answer.Goals as goal

pub returns : goal.returns
returns c = one_answer
