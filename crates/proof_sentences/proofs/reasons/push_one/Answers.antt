use Rattle.std.proofs.lemmas.Result.{IfOk-weaker}
use Rattle.proof_sentences.proofs.Adding.{adds-one}
use Rattle.proof_sentences.proofs.reasons.push_one.Goals as goal

pub returns : goal.returns
returns c = IfOk-weaker c.push_sentence.result _ _ (λ done words. adds-one c.args.query.now c.args.sentence.now c.args.out.now.items _ c.requires words) c.push_sentence.ensures
