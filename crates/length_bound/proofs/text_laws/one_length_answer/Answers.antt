use Rattle.length_bound.proofs.OneLength.{one_answer}
use Rattle.length_bound.proofs.text_laws.one_length_answer.Goals as goal

pub returns : goal.returns
returns c = one_answer
