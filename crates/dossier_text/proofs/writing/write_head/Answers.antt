use Rattle.dossier_text.proofs.HeadTexts.{head_put}
use Rattle.dossier_text.proofs.writing.write_head.Goals as goal

pub returns-clause-head : goal.returns-clause-head
returns-clause-head c =
    let query = c.write_query_lines.ensures in
    head_put c.args.claim.now c.args.query.now _ _ _ _ c.push_claim.ensures.read query.odds query.clock query.fen c.requires.empty c.push_text.ensures.text c.push_claim.ensures.line query.lines
