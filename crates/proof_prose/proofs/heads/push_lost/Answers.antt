use Rattle.std.proofs.Common.{refl}
use Rattle.std.proofs.lemmas.Result.{IfOk-equal}
use Rattle.std.specs.Prelude.{codes}
use Rattle.prose_words.proofs.Squares.{thence}
use Rattle.proof_prose.proofs.heads.push_lost.Goals as goal

pub returns : goal.returns
returns c =
    IfOk-equal c.say-4.result c.say-4.new.out.items _ _ c.say-4.ensures
    (thence _ _ _ _ (codes " side") (thence _ _ _ _ _ (thence _ _ _ _ _ (rw (c.side_word.ensures, c.side.ensures) at c.in_ok-say.ensures) c.in_ok-say-2.ensures) (rw (c.wing_word.ensures) at c.in_ok-say-3.ensures)) refl)
