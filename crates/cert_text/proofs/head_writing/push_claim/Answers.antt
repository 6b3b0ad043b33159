use Rattle.std.proofs.Common.{ap, arith, ◌∙◌, length}
use Rattle.cert_text.proofs.ClaimTexts.{text_read}
use Rattle.cert_text.proofs.Short.{claim_short}
use Rattle.cert_text.proofs.head_writing.push_claim.Goals as goal

pub push_ended-requires : goal.push_ended-requires
push_ended-requires c = omega (arith, c.requires.room, claim_short c.args.claim.now, ap length (c.as_slice.ensures.value ∙ c.write_claim.ensures.text))

pub returns-clause-written : goal.returns-clause-written
returns-clause-written c = (text_read c.write_claim.new.out.items c.args.claim.now c.write_claim.ensures.read).written

pub returns-clause-short : goal.returns-clause-short
returns-clause-short c = omega (arith, c.push_ended.ensures.longer, claim_short c.args.claim.now, ap length (c.as_slice.ensures.value ∙ c.write_claim.ensures.text))
