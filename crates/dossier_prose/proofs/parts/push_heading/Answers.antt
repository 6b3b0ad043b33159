use Rattle.std.proofs.Common.{◌++◌}
use Rattle.std.specs.Prelude.{codes}
use Rattle.prose_words.proofs.Squares.{thence}
use Rattle.prose_words.proofs.Behind.{behind}
use Rattle.std.specs.Fmt.{decimal}
use Rattle.cert_text.specs.SeenCert.{cert_of}
use Rattle.dossier_prose.specs.Parts.{part_words}
use Rattle.dossier_prose.proofs.parts.push_heading.Goals as goal

pub returns : goal.returns
returns c =
    let h0 = c.in_ok-push_place.ensures in
    let h1 = thence c.args.out.now.items _ _ (codes "\nPart " ++ decimal c.args.number ++ codes " of " ++ decimal c.args.count ++ codes ": ") (part_words c.args.line.now c.args.named.now (cert_of c.args.cert.now).claim (cert_of c.args.cert.now).query) h0 (c.in_ok-push_words.ensures) in
    behind c.say.result c.args.out.now.items _ _ ((codes "\nPart " ++ decimal c.args.number ++ codes " of " ++ decimal c.args.count ++ codes ": ") ++ (part_words c.args.line.now c.args.named.now (cert_of c.args.cert.now).claim (cert_of c.args.cert.now).query)) (codes "\n") h1 (c.say.ensures)
