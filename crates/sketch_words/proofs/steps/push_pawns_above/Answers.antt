use Rattle.std.proofs.Common.{◌++◌}
use Rattle.std.specs.Prelude.{codes}
use Rattle.prose_words.proofs.Squares.{thence}
use Rattle.prose_words.proofs.Behind.{behind}
use Rattle.std.specs.Fmt.{decimal}
use Rattle.sketch_words.proofs.steps.push_pawns_above.Goals as goal

pub returns : goal.returns
returns c =
    let h0 = c.in_ok-say.ensures in
    let h1 = thence c.args.out.now.items _ _ (codes " with ") (decimal c.args.above) h0 (rw c.from.ensures at c.in_ok-push_number.ensures) in
    behind c.say-2.result c.args.out.now.items _ _ ((codes " with ") ++ (decimal c.args.above)) (codes " other pawns above it on its file") h1 (c.say-2.ensures)
