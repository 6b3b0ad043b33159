use Rattle.std.proofs.Common.{◌++◌, ◌+◌}
use Rattle.std.proofs.lemmas.Result.{IfOk-weaker}
use Rattle.std.specs.Prelude.{codes}
use Rattle.std.specs.Fmt.{decimal}
use Rattle.prose_words.proofs.Squares.{thence}
use Rattle.proof_sentences.specs.Sentences.{most_words}
use Rattle.proof_sentences.proofs.balance_facts.push_together.Goals as goal

pub returns : goal.returns
returns c =
    let h0 = c.in_ok-say.ensures in
    let h1 = thence c.args.out.now.items _ _ (codes "All men together pay at least ") (decimal (c.args.gates + 1)) h0 c.in_ok-push_number.ensures in
    let h2 = thence c.args.out.now.items _ _ (codes "All men together pay at least " ++ decimal (c.args.gates + 1)) (codes " more than they earn") h1 c.in_ok-say-2.ensures in
    IfOk-weaker c.push_most.result _ _ (λ done words. thence c.args.out.now.items _ _ ((codes "All men together pay at least " ++ decimal (c.args.gates + 1)) ++ codes " more than they earn") (most_words c.args.gates) h2 words) c.push_most.ensures
