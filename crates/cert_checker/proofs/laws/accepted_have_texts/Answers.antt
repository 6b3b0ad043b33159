use Rattle.std.proofs.Common.{sym, ap, ◌∙◌}
use Rattle.std.proofs.lemmas.Bool.{and_parts}
use Rattle.cert_text.specs.ClaimLines.{promotes_well}
use Rattle.cert_text.specs.Writable.{stays_on_board}
use Rattle.cert_text.proofs.HeadTexts.{head_written}
use Rattle.cert_checker.proofs.laws.accepted_have_texts.Goals as goal

pub returns : goal.returns
returns c lines claim q answers =
    let cert = answers.0 in
    let written = head_written answers.1.head cert.claim cert.query answers.1.heading in
    ap promotes_well (sym answers.2) ∙ (and_parts (stays_on_board cert.claim) (promotes_well cert.claim) written).1
