use Rattle.std.proofs.lemmas.Result.{IfOk-weaker}
use Rattle.std.specs.Prelude.{codes}
use Rattle.std.specs.Fmt.{decimal}
use Rattle.prose_words.proofs.Squares.{thence}
use Rattle.proof_sentences.proofs.pawn_facts.push_fewer.Goals as goal

pub returns : goal.returns
returns c =
    IfOk-weaker c.push_number.result _ _ (λ done words. thence c.args.out.now.items _ _ (codes ", but began with ") (decimal c.args.began) c.in_ok-say.ensures words) c.push_number.ensures
