use Rattle.std.proofs.Common.{◌++◌, refl}
use Rattle.std.proofs.lemmas.Result.{IfOk-equal}
use Rattle.std.specs.Prelude.{codes}
use Rattle.prose_words.proofs.Squares.{thence}
use Rattle.board_base.specs.Texts.{square_text}
use Rattle.proof_prose.proofs.heads.push_not.Goals as goal

pub returns : goal.returns
returns c =
    let h0 = c.in_ok-say.ensures in
    let h1 = thence c.args.out.now.items _ _ (codes "the last move was not ") (square_text c.args.d.now.from) h0 c.in_ok-push_square.ensures in
    let h2 = thence c.args.out.now.items _ _ ((codes "the last move was not ") ++ (square_text c.args.d.now.from)) (codes "-") h1 c.in_ok-say-2.ensures in
    IfOk-equal c.push_square-2.result c.push_square-2.new.out.items _ _ c.push_square-2.ensures (thence c.args.out.now.items _ _ (((codes "the last move was not ") ++ (square_text c.args.d.now.from)) ++ (codes "-")) (square_text c.args.d.now.to) h2 refl)
