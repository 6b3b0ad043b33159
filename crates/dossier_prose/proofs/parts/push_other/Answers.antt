use Rattle.std.proofs.Common.{◌++◌}
use Rattle.std.specs.Prelude.{codes}
use Rattle.prose_words.proofs.Squares.{thence}
use Rattle.prose_words.proofs.Behind.{behind}
use Rattle.dossier_prose.specs.Parts.{squares_words, taken_words}
use Rattle.dossier_prose.proofs.parts.push_other.Goals as goal

pub returns : goal.returns
returns c =
    let h0 = c.in_ok-say.ensures in
    let h1 = thence c.args.out.now.items _ _ (codes "had the move ") (squares_words c.args.m.now) h0 (c.in_ok-push_squares.ensures) in
    let h2 = thence c.args.out.now.items _ _ ((codes "had the move ") ++ (squares_words c.args.m.now)) (codes " captured ") h1 (c.in_ok-say-2.ensures) in
    let h3 = thence c.args.out.now.items _ _ (((codes "had the move ") ++ (squares_words c.args.m.now)) ++ (codes " captured ")) (taken_words c.args.double c.args.place) h2 (c.in_ok-push_taken.ensures) in
    behind c.say-3.result c.args.out.now.items _ _ ((((codes "had the move ") ++ (squares_words c.args.m.now)) ++ (codes " captured ")) ++ (taken_words c.args.double c.args.place)) (codes ", it would have left this:") h3 (c.say-3.ensures)
