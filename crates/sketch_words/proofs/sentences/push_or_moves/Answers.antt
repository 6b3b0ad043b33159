use Rattle.std.proofs.Common.{◌++◌}
use Rattle.std.specs.Prelude.{codes}
use Rattle.prose_words.proofs.Squares.{thence}
use Rattle.prose_words.proofs.Behind.{behind}
use Rattle.sketch_words.proofs.sentences.push_or_moves.Goals as goal

pub returns : goal.returns
returns c =
    let h0 = c.in_ok-say.ensures in
    let h1 = thence c.args.out.now.items _ _ (codes ", or a move of a pawn on file") (c.args.files.now) h0 (c.in_ok-say-2.ensures) in
    behind c.say-3.result c.args.out.now.items _ _ ((codes ", or a move of a pawn on file") ++ (c.args.files.now)) (codes ",") h1 (c.say-3.ensures)
