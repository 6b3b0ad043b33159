use Rattle.std.proofs.Common.{refl, ap, subst, sym, ◌∙◌}
use Rattle.cert_text.specs.Lines.{cut}
use Rattle.cert_text.specs.SeenCert.{cert_of}
use Rattle.cert_checker.specs.Answers.{bad_text, fault}
use Rattle.cert_checker.specs.Walk.{unlisted, unsupported}
use Rattle.position_report.specs.Prose.{Explains}
use Rattle.command_answers.specs.Checks.{refusal_line}
use Rattle.command_answers.proofs.explains.answer_certificate.Goals as goal

pub returns-in_ok-explain-in-Ok : goal.returns-in_ok-explain-in-Ok
returns-in_ok-explain-in-Ok c =
    let explains = subst (Explains (cert_of c.in-Ok.cert)) (sym c.of_lines.ensures) c.in_ok-explain-in-Ok.ensures in
    (cert_of c.in-Ok.cert, c.in-Ok.ensures.text, c.in-Ok.ensures.proves, explains)

pub unlisted-requires-clause-promotion : goal.unlisted-requires-clause-promotion
unlisted-requires-clause-promotion c =
    let all = rw c.in-Err-Unlisted.field-0-is at c.in-Err-Unlisted.ensures.refused in
    rw c.in-Err-Unlisted.field-0-is (c.unlisted_have_texts.ensures.promotion (cut c.args.input.now) _ _ all)

pub unlisted-requires-clause-capture : goal.unlisted-requires-clause-capture
unlisted-requires-clause-capture c =
    let all = rw c.in-Err-Unlisted.field-0-is at c.in-Err-Unlisted.ensures.refused in
    rw c.in-Err-Unlisted.field-0-is (c.unlisted_have_texts.ensures.capture (cut c.args.input.now) _ _ all)

pub returns-in-Err-BadText : goal.returns-in-Err-BadText
returns-in-Err-BadText c =
    (bad_text c.in-Err-BadText.line, rw c.in-Err-BadText.field-0-is at c.in-Err-BadText.ensures.refused, (refl, c.of_line.ensures ∙ (rw c.in-Err-BadText.field-0-is at c.refusal.ensures)))

pub returns-in-Err-Unlisted : goal.returns-in-Err-Unlisted
returns-in-Err-Unlisted c =
    let all = rw c.in-Err-Unlisted.field-0-is at c.in-Err-Unlisted.ensures.refused in
    (fault c.in-Err-Unlisted.line (unlisted c.in-Err-Unlisted.unmove), all, (refl, c.of_line-in-Err-Unlisted.ensures ∙ (rw c.in-Err-Unlisted.field-0-is at c.unlisted.ensures)))

pub returns-in-Err-Unsupported : goal.returns-in-Err-Unsupported
returns-in-Err-Unsupported c =
    let all = rw c.in-Err-Unsupported.field-0-is at c.in-Err-Unsupported.ensures.refused in (
      fault c.in-Err-Unsupported.line (unsupported c.in-Err-Unsupported.why),
      all,
      (refl, c.of_line-in-Err-Unsupported.ensures ∙ (rw c.in-Err-Unsupported.field-0-is at c.refusal-in-Err-Unsupported.ensures) ∙ ap (refusal_line c.in-Err-Unsupported.line) (rw c.in-Err-Unsupported.field-0-is at c.word.ensures)),
    )
