use Rattle.cert_text.proofs.CertTexts.{head_bytes}
use Rattle.command_answers.proofs.certificates.head_text.Goals as goal

pub returns : goal.returns
returns c = head_bytes _ c.args.claim.now c.args.query.now c.write_head.ensures.head
