use Rattle.std.proofs.Common.{◌++◌}
use Rattle.std.specs.Prelude.{codes}
use Rattle.board_base.specs.Play.{side}
use Rattle.prose_words.proofs.Squares.{thence}
use Rattle.prose_words.specs.Words.{side_word, wing_word}
use Rattle.position_report.proofs.held.push_if.Goals as goal
use Rattle.prose_words.proofs.Behind.{behind}

pub returns : goal.returns
returns c =
    let o = c.args.out.now.items in
    let who = side_word (side c.args.castle) in
    let wing = wing_word c.args.castle in
    let h1 = thence o _ _ (codes "If ") who c.in_ok-say.ensures (rw (c.side_word.ensures, c.side.ensures) at c.in_ok-say-2.ensures) in
    let h2 = thence o _ _ (codes "If " ++ who) (codes " may castle on the ") h1 c.in_ok-say-3.ensures in
    let h3 = thence o _ _ (codes "If " ++ who ++ codes " may castle on the ") wing h2 (rw c.wing_word.ensures at c.in_ok-say-4.ensures) in
    behind c.say-5.result o _ _ (codes "If " ++ who ++ codes " may castle on the " ++ wing) (codes " side:\n") h3 c.say-5.ensures
