use Rattle.std.proofs.Common.{◌++◌}
use Rattle.std.specs.Prelude.{codes}
use Rattle.prose_words.proofs.Squares.{thence}
use Rattle.prose_words.proofs.Behind.{behind}
use Rattle.dossier_prose.specs.Parts.{squares_words}
use Rattle.dossier_prose.proofs.parts.push_going.Goals as goal

pub returns : goal.returns
returns c =
    let h0 = c.in_ok-say.ensures in
    let h1 = thence c.args.out.now.items _ _ (c.args.words.now) (codes " went ") h0 (c.in_ok-say-2.ensures) in
    let h2 = thence c.args.out.now.items _ _ ((c.args.words.now) ++ (codes " went ")) (squares_words c.args.m.now) h1 (c.in_ok-push_squares.ensures) in
    behind c.say-3.result c.args.out.now.items _ _ (((c.args.words.now) ++ (codes " went ")) ++ (squares_words c.args.m.now)) (codes ".") h2 (c.say-3.ensures)
