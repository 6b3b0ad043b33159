use Rattle.std.proofs.Common.{refl}
use Rattle.cert_checker.specs.Answers.{bad_text, fault}
use Rattle.cert_checker.specs.Walk.{unlisted, unsupported}
use Rattle.dossier_checker.proofs.WholeReading.{due_read}
use Rattle.dossier_checker.proofs.reading.proof_of.Goals as goal

pub returns-in-Ok : goal.returns-in-Ok
returns-in-Ok c = due_read c.args.bytes.now c.args.due.now c.args.part c.in-Ok.cert c.if_due.result c.in-Ok.ensures.text c.in-Ok.ensures.proves c.if_due.ensures

pub returns-in-Err-BadText : goal.returns-in-Err-BadText
returns-in-Err-BadText c = (bad_text c.in-Err-BadText.line, rw c.in-Err-BadText.field-0-is at c.in-Err-BadText.ensures.refused, refl)

pub returns-in-Err-Unlisted : goal.returns-in-Err-Unlisted
returns-in-Err-Unlisted c = (fault c.in-Err-Unlisted.line (unlisted c.in-Err-Unlisted.unmove), rw c.in-Err-Unlisted.field-0-is at c.in-Err-Unlisted.ensures.refused, refl)

pub returns-in-Err-Unsupported : goal.returns-in-Err-Unsupported
returns-in-Err-Unsupported c = (fault c.in-Err-Unsupported.line (unsupported c.in-Err-Unsupported.why), rw c.in-Err-Unsupported.field-0-is at c.in-Err-Unsupported.ensures.refused, refl)
