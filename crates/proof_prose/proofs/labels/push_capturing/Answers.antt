use Rattle.std.proofs.Common.{refl}
use Rattle.std.proofs.lemmas.Result.{IfOk-equal}
use Rattle.std.specs.Prelude.{codes}
use Rattle.prose_words.proofs.Squares.{thence}
use Rattle.prose_words.specs.Words.{kind_word}
use Rattle.proof_prose.proofs.labels.push_capturing.Goals as goal

pub returns : goal.returns
returns c =
    let h0 = c.in_ok-say.ensures in
    IfOk-equal c.say-2.result c.say-2.new.out.items _ _ (rw c.kind_word.ensures at c.say-2.ensures) (thence c.args.out.now.items _ _ (codes ", capturing a ") (kind_word c.args.kind) h0 refl)
