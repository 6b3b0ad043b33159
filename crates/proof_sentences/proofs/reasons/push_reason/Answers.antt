use Rattle.std.proofs.lemmas.Result.{IfOk-weaker}
use Rattle.proof_sentences.proofs.reasons.push_reason.Goals as goal

pub returns : goal.returns
returns c = IfOk-weaker c.push_supported.result _ _ (λ done told. (c.lessened-least.result, c.lessened-least.ensures.least, told)) c.push_supported.ensures
