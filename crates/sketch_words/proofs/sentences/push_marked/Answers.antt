use Rattle.std.proofs.Common.{◌++◌}
use Rattle.std.specs.Prelude.{codes}
use Rattle.prose_words.proofs.Squares.{thence}
use Rattle.prose_words.proofs.Behind.{behind}
use Rattle.sketch_words.specs.Phrases.{said_of}
use Rattle.sketch_words.proofs.sentences.push_marked.Goals as goal

pub returns : goal.returns
returns c =
    let h0 = c.in_ok-push_said_of.ensures in
    let h1 = thence c.args.out.now.items _ _ (said_of c.args.officers.now (codes " These officers aren't promoted pawns:")) (said_of c.args.pawns.now (codes " These pawns never captured:")) h0 (c.in_ok-push_said_of-2.ensures) in
    behind c.say.result c.args.out.now.items _ _ ((said_of c.args.officers.now (codes " These officers aren't promoted pawns:")) ++ (said_of c.args.pawns.now (codes " These pawns never captured:"))) (codes " Otherwise the captures by pawns wouldn't balance.") h1 (c.say.ensures)
