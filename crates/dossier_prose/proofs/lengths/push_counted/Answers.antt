use Rattle.std.proofs.Common.{◌++◌}
use Rattle.std.specs.Prelude.{codes}
use Rattle.prose_words.proofs.Squares.{thence}
use Rattle.prose_words.proofs.Behind.{behind}
use Rattle.std.specs.Fmt.{decimal}
use Rattle.dossier_prose.specs.Lengths.{plural}
use Rattle.dossier_prose.proofs.lengths.push_counted.Goals as goal

pub returns : goal.returns
returns c =
    let h0 = c.in_ok-push_number.ensures in
    let h1 = thence c.args.out.now.items _ _ (decimal c.args.count) (codes " ") h0 (c.in_ok-say.ensures) in
    let h2 = thence c.args.out.now.items _ _ ((decimal c.args.count) ++ (codes " ")) c.args.kind.now h1 (c.in_ok-say-2.ensures) in
    behind c.say-3.result c.args.out.now.items _ _ (((decimal c.args.count) ++ (codes " ")) ++ c.args.kind.now) (plural c.args.count) h2 (rw c.plural.ensures at c.say-3.ensures)
