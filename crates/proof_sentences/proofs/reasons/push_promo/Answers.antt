use Rattle.std.proofs.Common.{◌≡◌, ◌∙◌, ap}
use Rattle.std.proofs.lemmas.Result.{IfOk-weaker}
use Rattle.board_base.specs.Board.{array_of}
use Rattle.board_base.specs.declared.men.Kind.TheVariants.{Pawn}
use Rattle.men_account.specs.Account.{is_any, men}
use Rattle.men_account.specs.declared.tallies.Counts.{Counts}
use Rattle.men_account.specs.declared.tallies.Allowance.{Allowance}
use Rattle.query_base.specs.Asked.{Asked}
use Rattle.proof_sentences.specs.Sentences.{NeverMoved}
use Rattle.proof_sentences.specs.declared.sentences.PawnFact.TheVariants.{Gone, Promoted}
use Rattle.proof_sentences.specs.declared.sentences.Sentence.TheVariants.{OnPawns, Settled}
use Rattle.proof_sentences.proofs.Adding.{adds-three}
use Rattle.proof_sentences.proofs.reasons.push_promo.Goals as goal

pub push_sentence-requires-3 : goal.push_sentence-requires-3
push_sentence-requires-3 c =
    let pawns : c.counts-pawns.result.pawns ≡ men c.args.side Pawn is_any c.args.query.now.board =
    ap (λ (n : Counts). n.pawns) c.counts-pawns.ensures ∙ ap (λ (q : Asked). men c.args.side Pawn is_any q.board) c.query.view_is in
    let began : c.allowance-began.result.pawns ≡ men c.args.side Pawn is_any (array_of c.args.query.now.odds) =
    ap (λ (n : Allowance). n.pawns) c.allowance-began.ensures ∙ ap (λ (q : Asked). men c.args.side Pawn is_any (array_of q.odds)) c.query.view_is in
    (pawns, began, c.requires.more)

pub returns : goal.returns
returns c =
    let never : NeverMoved c.args.query.now c.args.set = (c.requires.settled.frozen, c.requires.settled.as_array) in
    let pawns : c.counts-pawns.result.pawns ≡ men c.args.side Pawn is_any c.args.query.now.board =
    ap (λ (n : Counts). n.pawns) c.counts-pawns.ensures ∙ ap (λ (q : Asked). men c.args.side Pawn is_any q.board) c.query.view_is in
    let began : c.allowance-began.result.pawns ≡ men c.args.side Pawn is_any (array_of c.args.query.now.odds) =
    ap (λ (n : Allowance). n.pawns) c.allowance-began.ensures ∙ ap (λ (q : Asked). men c.args.side Pawn is_any (array_of q.odds)) c.query.view_is in
    IfOk-weaker c.push_sentence-3.result _ _ (λ done words. (
      c.counts-pawns.result.pawns,
      c.allowance-began.result.pawns,
      adds-three c.args.query.now (Settled c.args.set) (OnPawns (Gone c.args.side c.args.set)) (OnPawns (Promoted c.args.side c.args.set c.counts-pawns.result.pawns c.allowance-began.result.pawns c.args.first)) c.args.out.now.items _ _ _ never never
          (pawns, began, c.requires.more)
          c.in_ok-push_sentence.ensures c.in_ok-push_sentence-2.ensures words,
    )) c.push_sentence-3.ensures
