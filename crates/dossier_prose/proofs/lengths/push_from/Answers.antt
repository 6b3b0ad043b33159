use Rattle.std.proofs.Common.{◌++◌}
use Rattle.std.specs.Prelude.{codes}
use Rattle.prose_words.proofs.Squares.{thence}
use Rattle.prose_words.proofs.Behind.{behind}
use Rattle.std.specs.Fmt.{decimal}
use Rattle.board_base.specs.Texts.{square_text}
use Rattle.dossier_prose.proofs.lengths.push_from.Goals as goal

pub returns : goal.returns
returns c =
    let h0 = c.in_ok-say.ensures in
    let h1 = thence c.args.out.now.items _ _ (codes " from ") (square_text c.args.home) h0 (c.in_ok-push_square.ensures) in
    let h2 = thence c.args.out.now.items _ _ ((codes " from ") ++ (square_text c.args.home)) (codes " ") h1 (c.in_ok-say-2.ensures) in
    let h3 = thence c.args.out.now.items _ _ (((codes " from ") ++ (square_text c.args.home)) ++ (codes " ")) (decimal c.args.cost) h2 (c.in_ok-push_number.ensures) in
    behind c.say-3.result c.args.out.now.items _ _ ((((codes " from ") ++ (square_text c.args.home)) ++ (codes " ")) ++ (decimal c.args.cost)) (codes ", ") h3 (c.say-3.ensures)
