use Rattle.std.proofs.Common.{◌∙◌}
use Rattle.std.proofs.lemmas.Bool.{and_parts}
use Rattle.cert_text.specs.SeenCert.{cert_of}
use Rattle.cert_text.specs.ClaimLines.{promotes_well}
use Rattle.cert_text.specs.Writable.{stays_on_board}
use Rattle.cert_text.proofs.CertTexts.{head_bytes, text_written, writable}
use Rattle.cert_text.proofs.WrittenTrees.{put_together}
use Rattle.cert_text.proofs.cert_writing.text_of.Goals as goal

pub write_head-requires-clause-promotion : goal.write_head-requires-clause-promotion
write_head-requires-clause-promotion c =
    (and_parts (stays_on_board c.args.cert.now.claim) (promotes_well c.args.cert.now.claim) (writable _ (cert_of c.args.cert.now) c.requires.1).claim).1

pub write_head-requires-clause-plain : goal.write_head-requires-clause-plain
write_head-requires-clause-plain c = (writable _ (cert_of c.args.cert.now) c.requires.1).plain

pub push_own-requires-clause-fits : goal.push_own-requires-clause-fits
push_own-requires-clause-fits c = (0, (writable _ (cert_of c.args.cert.now) c.requires.1).root)

pub push_below-requires : goal.push_below-requires
push_below-requires c = (0, (writable _ (cert_of c.args.cert.now) c.requires.1).root)

pub returns : goal.returns
returns c =
    let head = c.as_slice.ensures.value ∙ head_bytes _ c.args.cert.now.claim c.args.cert.now.query c.write_head.ensures.head in
    text_written (cert_of c.args.cert.now) c.push_below.new.out.items c.requires
    (put_together (cert_of c.args.cert.now) _ _ _ _ _ head c.new-out.ensures.items c.in_ok-extend_from_slice.ensures.items c.in_ok-push_own.ensures c.in_ok-push_below.ensures)
