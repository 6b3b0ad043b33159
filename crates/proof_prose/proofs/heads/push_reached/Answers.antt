use Rattle.std.proofs.Common.{refl}
use Rattle.std.proofs.lemmas.Result.{IfOk-equal}
use Rattle.std.specs.Prelude.{codes}
use Rattle.prose_words.proofs.Squares.{thence}
use Rattle.proof_prose.specs.Heads.{given_words}
use Rattle.proof_prose.proofs.heads.push_reached.Goals as goal

pub returns : goal.returns
returns c =
    let h0 = c.in_ok-say.ensures in
    IfOk-equal c.push_given.result c.push_given.new.out.items _ _ (c.push_given.ensures) (thence c.args.out.now.items _ _ (codes "a game leads to this diagram") (given_words c.args.query.now) h0 refl)
