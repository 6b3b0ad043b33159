use Rattle.std.proofs.Common.{◌++◌, refl}
use Rattle.std.proofs.lemmas.Result.{IfOk-equal}
use Rattle.std.specs.Prelude.{codes}
use Rattle.prose_words.proofs.Squares.{thence}
use Rattle.balance_prose.proofs.counting.push_each.Goals as goal

pub returns : goal.returns
returns c =
    IfOk-equal c.push_two-2.result c.push_two-2.new.out.items _ _ c.push_two-2.ensures
    (thence c.args.out.now.items _ _ (codes "White's pawns" ++ c.args.white.now) (codes ", and by Black's" ++ c.args.black.now) c.in_ok-push_two.ensures refl)
