use Rattle.std.proofs.Common.{◌++◌}
use Rattle.std.proofs.lemmas.Result.{IfOk-weaker}
use Rattle.std.specs.Prelude.{codes}
use Rattle.prose_words.proofs.Squares.{thence}
use Rattle.board_base.specs.Texts.{square_text}
use Rattle.proof_sentences.specs.Phrases.{stayed_words}
use Rattle.proof_sentences.proofs.phrases.push_stayed.Goals as goal

pub returns : goal.returns
unfolding stayed_words
returns c =
    let h0 = c.in_ok-say.ensures in
    let h1 = thence c.args.out.now.items _ _ (codes "the king of ") (square_text c.args.king) h0 (c.in_ok-push_square.ensures) in
    let h2 = thence c.args.out.now.items _ _ ((codes "the king of ") ++ (square_text c.args.king)) (codes " and the rook of ") h1 (c.in_ok-say-2.ensures) in
    let h3 = thence c.args.out.now.items _ _ (((codes "the king of ") ++ (square_text c.args.king)) ++ (codes " and the rook of ")) (square_text c.args.rook) h2 (c.in_ok-push_square-2.ensures) in
    IfOk-weaker c.say-3.result _ _ (λ done words. thence c.args.out.now.items _ _ ((((codes "the king of ") ++ (square_text c.args.king)) ++ (codes " and the rook of ")) ++ (square_text c.args.rook)) (codes " never moved, and the rook was never taken") h3 words) c.say-3.ensures
