use Rattle.std.proofs.Common.{sym}
use Rattle.std.proofs.lemmas.Result.{IfOk-weaker}
use Rattle.proof_sentences.specs.declared.sentences.Sentence.TheVariants.{Rights}
use Rattle.proof_sentences.proofs.Adding.{adds-one}
use Rattle.proof_sentences.proofs.Astray.{found-astray}
use Rattle.proof_sentences.proofs.reasons.push_rights.Goals as goal

pub push_sentence-requires : goal.push_sentence-requires
push_sentence-requires c =
    let first = rw c.unwrap-castle.ensures at c.astray_right.ensures.first in
    found-astray c.args.query.now c.unwrap-castle.result (sym first)

pub returns : goal.returns
returns c =
    let first = rw c.unwrap-castle.ensures at c.astray_right.ensures.first in
    let says = found-astray c.args.query.now c.unwrap-castle.result (sym first) in
    IfOk-weaker c.push_sentence.result _ _ (λ done words. (c.unwrap-castle.result, sym first, adds-one c.args.query.now (Rights c.unwrap-castle.result) c.args.out.now.items _ says words)) c.push_sentence.ensures
