use Rattle.cert_text.proofs.HeadTexts.{head_put}
use Rattle.cert_text.proofs.head_writing.write_head.Goals as goal

pub returns-clause-head : goal.returns-clause-head
returns-clause-head c =
    head_put c.args.claim.now c.args.query.now _ _ _ _ c.push_claim.ensures.written c.is_known.ensures c.requires.plain c.requires.empty c.push_format.ensures.line c.push_claim.ensures.line c.write_query_lines.ensures.lines
