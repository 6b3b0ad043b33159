use Rattle.std.proofs.Common.{◌++◌}
use Rattle.std.proofs.lemmas.Result.{IfOk-weaker}
use Rattle.std.specs.Prelude.{codes}
use Rattle.prose_words.proofs.Squares.{thence}
use Rattle.proof_sentences.specs.Sentences.{counted}
use Rattle.proof_sentences.proofs.telling.push_back.Goals as goal

pub returns : goal.returns
returns c =
    let h0 = c.in_ok-say.ensures in
    let h1 = thence c.args.out.now.items _ _ (codes "The same position stands ") (counted c.args.steps (codes " half-move") (codes " half-moves")) h0 (c.in_ok-push_counted.ensures) in
    IfOk-weaker c.say-2.result _ _ (λ done words. thence c.args.out.now.items _ _ ((codes "The same position stands ") ++ (counted c.args.steps (codes " half-move") (codes " half-moves"))) (codes " later, with no more demands; a shortest game doesn't come to it twice.") h1 words) c.say-2.ensures
