use Rattle.cert_checker.proofs.Answering.{rest_answers}
use Rattle.cert_checker.proofs.laws.rest_answers.Goals as goal

pub returns : goal.returns
returns c = rest_answers
