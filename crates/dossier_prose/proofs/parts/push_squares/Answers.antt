use Rattle.std.proofs.Common.{◌++◌}
use Rattle.std.specs.Prelude.{codes}
use Rattle.prose_words.proofs.Squares.{thence}
use Rattle.prose_words.proofs.Behind.{behind}
use Rattle.board_base.specs.Texts.{square_text}
use Rattle.dossier_prose.proofs.parts.push_squares.Goals as goal

pub returns : goal.returns
returns c =
    let h0 = c.in_ok-say.ensures in
    let h1 = thence c.args.out.now.items _ _ (codes "from ") (square_text c.args.m.now.from) h0 (c.in_ok-push_square.ensures) in
    let h2 = thence c.args.out.now.items _ _ ((codes "from ") ++ (square_text c.args.m.now.from)) (codes " to ") h1 (c.in_ok-say-2.ensures) in
    behind c.push_square-2.result c.args.out.now.items _ _ (((codes "from ") ++ (square_text c.args.m.now.from)) ++ (codes " to ")) (square_text c.args.m.now.to) h2 (c.push_square-2.ensures)
