use Rattle.std.proofs.Common.{◌++◌, ◌+◌, refl}
use Rattle.std.proofs.lemmas.Result.{IfOk-equal}
use Rattle.std.specs.Prelude.{codes}
use Rattle.std.specs.Fmt.{decimal}
use Rattle.prose_words.proofs.Squares.{thence}
use Rattle.board_base.specs.Texts.{square_text}
use Rattle.board_base.specs.Board.{file}
use Rattle.balance_prose.proofs.counting.push_gate.Goals as goal

pub returns : goal.returns
returns c =
    let o = c.args.out.now.items in
    let a1 = codes "Add " in
    let a2 = a1 ++ decimal c.args.gate.now.toll in
    let a3 = a2 ++ codes " if a pawn that neither captured nor was taken as a pawn stood on " in
    let a4 = a3 ++ square_text c.args.gate.now.square in
    let a5 = a4 ++ codes " or crossed it: of those of " in
    let a6 = a5 ++ square_text (8 + file c.args.gate.now.square) in
    let a7 = a6 ++ codes " and " in
    let a8 = a7 ++ square_text (48 + file c.args.gate.now.square) in
    let h2 = thence o _ _ a1 (decimal c.args.gate.now.toll) c.in_ok-say.ensures c.in_ok-push_number.ensures in
    let h3 = thence o _ _ a2 (codes " if a pawn that neither captured nor was taken as a pawn stood on ") h2 c.in_ok-say-2.ensures in
    let h4 = thence o _ _ a3 (square_text c.args.gate.now.square) h3 (rw c.known-s.ensures at c.in_ok-push_square.ensures) in
    let h5 = thence o _ _ a4 (codes " or crossed it: of those of ") h4 c.in_ok-say-3.ensures in
    let h6 = thence o _ _ a5 (square_text (8 + file c.args.gate.now.square)) h5 (rw (c.known.ensures, c.file.ensures, c.known-s.ensures) at c.in_ok-push_square-2.ensures) in
    let h7 = thence o _ _ a6 (codes " and ") h6 c.in_ok-say-4.ensures in
    let h8 = thence o _ _ a7 (square_text (48 + file c.args.gate.now.square)) h7 (rw (c.known-2.ensures, c.file-2.ensures, c.known-s.ensures) at c.in_ok-push_square-3.ensures) in
    IfOk-equal c.say-5.result c.say-5.new.out.items _ _ c.say-5.ensures (thence o _ _ a8 (codes " only one can have. ") h8 refl)
