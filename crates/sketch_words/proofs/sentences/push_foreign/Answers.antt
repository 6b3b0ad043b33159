use Rattle.std.proofs.Common.{◌++◌}
use Rattle.std.specs.Prelude.{codes}
use Rattle.prose_words.proofs.Squares.{thence}
use Rattle.prose_words.proofs.Behind.{behind}
use Rattle.board_base.specs.Texts.{square_text}
use Rattle.prose_words.specs.Words.{man_words}
use Rattle.board_base.specs.Board.{array_of, at}
use Rattle.sketch_words.proofs.sentences.push_foreign.Goals as goal

pub returns : goal.returns
returns c =
    let h0 = c.in_ok-say.ensures in
    let h1 = thence c.args.out.now.items _ _ (codes " But at the beginning ") (man_words (at (array_of c.args.odds) c.args.s)) h0 (rw (c.at.ensures.man, c.array_of.ensures) at c.in_ok-push_man.ensures) in
    let h2 = thence c.args.out.now.items _ _ ((codes " But at the beginning ") ++ (man_words (at (array_of c.args.odds) c.args.s))) (codes " stood on ") h1 (c.in_ok-say-2.ensures) in
    let h3 = thence c.args.out.now.items _ _ (((codes " But at the beginning ") ++ (man_words (at (array_of c.args.odds) c.args.s))) ++ (codes " stood on ")) (square_text c.args.s) h2 (c.in_ok-push_square.ensures) in
    behind c.say-3.result c.args.out.now.items _ _ ((((codes " But at the beginning ") ++ (man_words (at (array_of c.args.odds) c.args.s))) ++ (codes " stood on ")) ++ (square_text c.args.s)) (codes ".") h3 (c.say-3.ensures)
