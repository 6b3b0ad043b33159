use Rattle.std.proofs.Common.{◌++◌, refl}
use Rattle.std.proofs.lemmas.Result.{IfOk-equal}
use Rattle.std.specs.Prelude.{codes}
use Rattle.std.specs.Fmt.{decimal}
use Rattle.prose_words.proofs.Squares.{thence}
use Rattle.board_base.specs.Texts.{square_text}
use Rattle.balance_prose.proofs.accounting.push_gate_alone.Goals as goal

pub returns : goal.returns
returns c =
    let square = square_text c.args.gate.now.square in
    let h1 = thence c.args.out.now.items _ _ (codes ", ") square c.in_ok-say.ensures (rw c.known.ensures at c.in_ok-push_square.ensures) in
    let h2 = thence c.args.out.now.items _ _ (codes ", " ++ square) (codes " makes up for ") h1 c.in_ok-say-2.ensures in
    IfOk-equal c.push_number.result c.push_number.new.out.items _ _ c.push_number.ensures
    (thence c.args.out.now.items _ _ (codes ", " ++ square ++ codes " makes up for ") (decimal c.args.gate.now.toll) h2 refl)
