use Rattle.std.proofs.Common.{◌++◌, cond}
use Rattle.std.proofs.lemmas.Result.{IfOk-weaker}
use Rattle.std.specs.Prelude.{codes}
use Rattle.prose_words.proofs.Squares.{thence}
use Rattle.board_base.specs.Game.{lacks_home}
use Rattle.proof_sentences.specs.Phrases.{unmoved_words}
use Rattle.proof_sentences.proofs.telling.push_astray.Goals as goal

pub returns : goal.returns
returns c =
    let h0 = c.in_ok-say.ensures in
    let h1 = thence c.args.out.now.items _ _ (codes "It can't be that ") (unmoved_words c.args.castle) h0 c.in_ok-push_unmoved.ensures in
    IfOk-weaker c.push_either.result _ _ (λ done words. thence c.args.out.now.items _ _ ((codes "It can't be that ") ++ (unmoved_words c.args.castle)) (cond (lacks_home c.args.odds c.args.castle) (codes ": the game began without the rook.") (codes ": they don't both stand there.")) h1 words) (rw c.lacks_home.ensures at c.push_either.ensures)
