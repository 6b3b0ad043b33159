use Rattle.std.proofs.Common.{rules}
use Rattle.std.proofs.lemmas.Result.{IfOk-weaker}
use Rattle.proof_sentences.proofs.Adding.{adds-one}
use Rattle.proof_sentences.specs.declared.sentences.PawnFact.TheVariants.{Count}
use Rattle.proof_sentences.specs.declared.sentences.Sentence.TheVariants.{OnPawns}
use Rattle.proof_sentences.proofs.reasons.push_side.Goals as goal

pub returns : goal.returns
returns c =
    IfOk-weaker c.push_sentence.result _ _ (λ done words. (
      c.counts-men.result.pawns,
      c.excess-together.result,
      c.allowance-allowed.result.pawns,
      adds-one c.args.query.now (OnPawns (Count c.args.side c.counts-men.result.pawns c.excess-together.result c.allowance-allowed.result.pawns c.args.first)) c.args.out.now.items _ (search rules) words,
    )) c.push_sentence.ensures
