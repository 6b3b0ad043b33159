use Rattle.std.proofs.Common.{◌++◌}
use Rattle.std.specs.Prelude.{codes}
use Rattle.prose_words.proofs.Behind.{behind}
use Rattle.proof_prose.specs.Heads.{drawn_text}
use Rattle.proof_story.specs.Rows.{rows_of}
use Rattle.dossier_prose.specs.Claims.{line_words}
use Rattle.dossier_prose.proofs.claims.push_opening.Goals as goal

pub returns : goal.returns
returns c =
    let h0 = c.in_ok-draw.ensures in
    behind c.push_claim_rows.result c.args.out.now.items _ _ (drawn_text c.args.query.now) (rows_of ((codes "Claim: " ++ line_words c.args.claim.now c.args.query.now) ++ codes ".")) h0 (c.push_claim_rows.ensures)
