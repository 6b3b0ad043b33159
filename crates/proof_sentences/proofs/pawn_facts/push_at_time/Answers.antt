use Rattle.std.proofs.Common.{◌++◌, [], cond}
use Rattle.std.proofs.lemmas.Result.{IfOk-weaker}
use Rattle.std.specs.Prelude.{codes}
use Rattle.prose_words.proofs.Squares.{thence}
use Rattle.prose_words.specs.Words.{side_word}
use Rattle.proof_sentences.proofs.pawn_facts.push_at_time.Goals as goal

pub returns : goal.returns
returns c =
    let h0 = c.in_ok-push_either.ensures in
    let h1 = thence c.args.out.now.items _ _ (cond c.args.first [] (codes "Before this move ")) (side_word c.args.side) h0 (rw c.side_word.ensures at c.in_ok-say.ensures) in
    IfOk-weaker c.push_either-2.result _ _ (λ done words. thence c.args.out.now.items _ _ ((cond c.args.first [] (codes "Before this move ")) ++ (side_word c.args.side)) (cond c.args.first c.args.now.now c.args.before.now) h1 words) c.push_either-2.ensures
