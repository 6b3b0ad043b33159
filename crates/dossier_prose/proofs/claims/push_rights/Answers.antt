use Rattle.std.proofs.Common.{◌++◌}
use Rattle.std.specs.Prelude.{codes}
use Rattle.prose_words.proofs.Squares.{thence}
use Rattle.prose_words.proofs.Behind.{behind}
use Rattle.dossier_prose.specs.Claims.{right_words}
use Rattle.dossier_prose.proofs.claims.push_rights.Goals as goal

pub returns : goal.returns
returns c =
    let h0 = c.in_ok-say.ensures in
    let h1 = thence c.args.out.now.items _ _ (codes "at least one of these two rights to castle is lost: ") (right_words c.args.first) h0 (c.in_ok-push_right.ensures) in
    let h2 = thence c.args.out.now.items _ _ ((codes "at least one of these two rights to castle is lost: ") ++ (right_words c.args.first)) (codes ", ") h1 (c.in_ok-say-2.ensures) in
    behind c.push_right-2.result c.args.out.now.items _ _ (((codes "at least one of these two rights to castle is lost: ") ++ (right_words c.args.first)) ++ (codes ", ")) (right_words c.args.second) h2 (c.push_right-2.ensures)
