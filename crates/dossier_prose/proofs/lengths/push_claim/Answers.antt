use Rattle.std.proofs.Common.{◌++◌}
use Rattle.std.specs.Prelude.{codes}
use Rattle.prose_words.proofs.Squares.{thence}
use Rattle.prose_words.proofs.Behind.{behind}
use Rattle.dossier_prose.specs.Lengths.{counted}
use Rattle.dossier_prose.proofs.lengths.push_claim.Goals as goal

pub returns : goal.returns
returns c =
    let h0 = c.in_ok-say.ensures in
    let h1 = thence c.args.out.now.items _ _ (codes "Claim: each game that leads here has at least ") (counted c.args.half_moves (codes "half-move")) h0 c.in_ok-push_counted.ensures in
    behind c.say-2.result c.args.out.now.items _ _ (codes "Claim: each game that leads here has at least " ++ counted c.args.half_moves (codes "half-move")) (codes ".\nThe moves that each man needs, alone on an empty board, from homes that make their sum least:\n") h1 c.say-2.ensures
