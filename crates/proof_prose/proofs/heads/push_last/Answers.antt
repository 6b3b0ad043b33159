use Rattle.std.proofs.Common.{refl}
use Rattle.std.proofs.lemmas.Result.{IfOk-equal}
use Rattle.std.specs.Prelude.{codes}
use Rattle.prose_words.proofs.Squares.{thence}
use Rattle.proof_prose.specs.Heads.{going_words}
use Rattle.proof_prose.proofs.heads.push_last.Goals as goal

pub returns : goal.returns
returns c =
    let h0 = c.in_ok-say.ensures in
    IfOk-equal c.push_going.result c.push_going.new.out.items _ _ (c.push_going.ensures) (thence c.args.out.now.items _ _ (codes "the last move ") (going_words c.args.m.now) h0 refl)
