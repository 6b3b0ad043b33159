use Rattle.std.proofs.Common.{◌++◌}
use Rattle.std.specs.Prelude.{codes}
use Rattle.prose_words.proofs.Squares.{thence}
use Rattle.prose_words.proofs.Behind.{behind}
use Rattle.prose_words.specs.Words.{side_word, wing_word}
use Rattle.board_base.specs.Play.{side}
use Rattle.dossier_prose.proofs.claims.push_right.Goals as goal

pub returns : goal.returns
returns c =
    let h0 = rw (c.side_word.ensures, c.side.ensures) at c.in_ok-say.ensures in
    let h1 = thence c.args.out.now.items _ _ (side_word (side c.args.castle)) (codes "'s on the ") h0 (c.in_ok-say-2.ensures) in
    let h2 = thence c.args.out.now.items _ _ ((side_word (side c.args.castle)) ++ (codes "'s on the ")) (wing_word c.args.castle) h1 (rw c.wing_word.ensures at c.in_ok-say-3.ensures) in
    behind c.say-4.result c.args.out.now.items _ _ (((side_word (side c.args.castle)) ++ (codes "'s on the ")) ++ (wing_word c.args.castle)) (codes " side") h2 (c.say-4.ensures)
