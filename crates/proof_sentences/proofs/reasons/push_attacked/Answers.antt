use Rattle.std.proofs.Common.{◌≡◌, [], ◌∷◌, sym, subst}
use Rattle.std.proofs.lemmas.Result.{IfOk-weaker}
use Rattle.board_base.specs.Board.{opponent}
use Rattle.board_base.specs.declared.men.Colour.{Colour}
use Rattle.proof_sentences.specs.Firsts.{IsFirst, is_king_attacked}
use Rattle.proof_sentences.specs.Reasons.{Adds}
use Rattle.proof_sentences.specs.declared.sentences.Sentence.TheVariants.{Check}
use Rattle.proof_sentences.proofs.Adding.{adds-one}
use Rattle.proof_sentences.proofs.reasons.push_attacked.Goals as goal

pub push_sentence-requires : goal.push_sentence-requires
push_sentence-requires c =
    rw (sym c.query.view_is) (c.other-side.ensures, (rw c.unwrap-s.ensures at c.king_in_check.ensures.first).0)

pub returns : goal.returns
returns c =
    let side : c.other-side.result ≡ opponent c.args.query.now.turn = rw (sym c.query.view_is) c.other-side.ensures in
    let first : IsFirst (is_king_attacked c.args.query.now.board c.other-side.result) c.unwrap-s.result =
    rw (sym c.query.view_is) (rw c.unwrap-s.ensures at c.king_in_check.ensures.first) in
    IfOk-weaker c.push_sentence.result _ _ (λ done words. (
      c.unwrap-s.result,
      subst (λ (d : Colour). IsFirst (is_king_attacked c.args.query.now.board d) c.unwrap-s.result) side first,
      subst (λ (d : Colour). Adds c.args.query.now (Check d c.unwrap-s.result ∷ []) c.args.out.now.items c.push_sentence.new.out.items) side
          (adds-one c.args.query.now (Check c.other-side.result c.unwrap-s.result) c.args.out.now.items _ (side, first.0) words),
    )) c.push_sentence.ensures
