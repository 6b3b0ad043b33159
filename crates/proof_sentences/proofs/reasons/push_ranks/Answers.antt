use Rattle.std.proofs.Common.{sym}
use Rattle.std.proofs.lemmas.Result.{IfOk-weaker}
use Rattle.proof_sentences.specs.Firsts.{IsFirst, is_pawn_on_end}
use Rattle.proof_sentences.specs.declared.sentences.Sentence.TheVariants.{Ranks}
use Rattle.proof_sentences.proofs.Adding.{adds-one}
use Rattle.proof_sentences.proofs.reasons.push_ranks.Goals as goal

pub push_sentence-requires : goal.push_sentence-requires
push_sentence-requires c = rw (sym c.query.view_is) ((rw c.unwrap-s.ensures at c.pawn_on_end.ensures.first).0)

pub returns : goal.returns
returns c =
    let first : IsFirst (is_pawn_on_end c.args.query.now.board) c.unwrap-s.result = rw (sym c.query.view_is) (rw c.unwrap-s.ensures at c.pawn_on_end.ensures.first) in
    IfOk-weaker c.push_sentence.result _ _ (λ done words. (c.unwrap-s.result, first, adds-one c.args.query.now (Ranks c.unwrap-s.result) c.args.out.now.items _ first.0 words)) c.push_sentence.ensures
