use Rattle.std.proofs.Common.{refl, ap, map, subst, sym, ◌∙◌}
use Rattle.cert_checker.specs.Walk.{unlisted, unsupported}
use Rattle.cert_text.specs.SeenCert.{cert_of}
use Rattle.dossier_checker.specs.DossierAnswers.{bad_text_in, fault_in, no_head, no_part, other_part, unlisted_step}
use Rattle.dossier_prose.specs.Parts.{ExplainsDossier}
use Rattle.command_answers.specs.Lines.{line_in, part_line}
use Rattle.command_answers.proofs.explains.answer_dossier_text.Goals as goal

pub returns-in_ok-explain_dossier-in-Ok : goal.returns-in_ok-explain_dossier-in-Ok
returns-in_ok-explain_dossier-in-Ok c =
    let line = c.in-Ok.line in
    let certs = map cert_of line.proofs.items in
    let explains = subst (ExplainsDossier line.claim line.query certs) (sym c.of_lines.ensures) c.in_ok-explain_dossier-in-Ok.ensures in
    (line.claim, line.query, certs, rw c.in-Ok.is at c.in_ok-line.ensures.read, explains)

pub unlisted_in-requires-clause-promotion : goal.unlisted_in-requires-clause-promotion
unlisted_in-requires-clause-promotion c =
    let all = rw c.in-Err-Unlisted.field-0-is at (rw c.in-Err-Unlisted.is at c.in_ok-line.ensures.read) in
    rw c.in-Err-Unlisted.field-0-is (c.unlisted_in_parts_have_texts.ensures.promotion c.args.input.now _ _ _ all)

pub unlisted_in-requires-clause-capture : goal.unlisted_in-requires-clause-capture
unlisted_in-requires-clause-capture c =
    let all = rw c.in-Err-Unlisted.field-0-is at (rw c.in-Err-Unlisted.is at c.in_ok-line.ensures.read) in
    rw c.in-Err-Unlisted.field-0-is (c.unlisted_in_parts_have_texts.ensures.capture c.args.input.now _ _ _ all)

pub returns-in-Err-Head : goal.returns-in-Err-Head
returns-in-Err-Head c = (no_head, rw c.in-Err-Head.field-0-is at (rw c.in-Err-Head.is at c.in_ok-line.ensures.read), (refl, c.of_line.ensures ∙ c.no_head.ensures))

pub returns-in-Err-UnlistedStep : goal.returns-in-Err-UnlistedStep
returns-in-Err-UnlistedStep c =
    (unlisted_step c.in-Err-UnlistedStep.step, rw c.in-Err-UnlistedStep.field-0-is at (rw c.in-Err-UnlistedStep.is at c.in_ok-line.ensures.read), (refl, c.of_line-in-Err-UnlistedStep.ensures ∙ (rw c.in-Err-UnlistedStep.field-0-is at c.refused_step.ensures)))

pub returns-in-Err-NoPart : goal.returns-in-Err-NoPart
returns-in-Err-NoPart c =
    (no_part c.in-Err-NoPart.part, rw c.in-Err-NoPart.field-0-is at (rw c.in-Err-NoPart.is at c.in_ok-line.ensures.read), (refl, c.of_line-in-Err-NoPart.ensures ∙ (rw c.in-Err-NoPart.field-0-is at c.part_refusal.ensures)))

pub returns-in-Err-BadText : goal.returns-in-Err-BadText
returns-in-Err-BadText c = (
  bad_text_in c.in-Err-BadText.part c.in-Err-BadText.line,
  rw c.in-Err-BadText.field-0-is at (rw c.in-Err-BadText.is at c.in_ok-line.ensures.read),
  (refl, c.of_line-in-Err-BadText.ensures ∙ (rw c.in-Err-BadText.field-0-is at c.part_line_refusal.ensures)),
)

pub returns-in-Err-Unlisted : goal.returns-in-Err-Unlisted
returns-in-Err-Unlisted c = (
  fault_in c.in-Err-Unlisted.part c.in-Err-Unlisted.line (unlisted c.in-Err-Unlisted.unmove),
  rw c.in-Err-Unlisted.field-0-is at (rw c.in-Err-Unlisted.is at c.in_ok-line.ensures.read),
  (refl, c.of_line-in-Err-Unlisted.ensures ∙ (rw c.in-Err-Unlisted.field-0-is at c.unlisted_in.ensures)),
)

pub returns-in-Err-Unsupported : goal.returns-in-Err-Unsupported
returns-in-Err-Unsupported c = (
  fault_in c.in-Err-Unsupported.part c.in-Err-Unsupported.line (unsupported c.in-Err-Unsupported.why),
  rw c.in-Err-Unsupported.field-0-is at (rw c.in-Err-Unsupported.is at c.in_ok-line.ensures.read),
  (
    refl,
    c.of_line-in-Err-Unsupported.ensures ∙ (rw c.in-Err-Unsupported.field-0-is at c.part_line_refusal-in-Err-Unsupported.ensures) ∙ ap (λ what. part_line c.in-Err-Unsupported.part (line_in c.in-Err-Unsupported.line what)) (rw c.in-Err-Unsupported.field-0-is at c.word.ensures),
  ),
)

pub returns-in-Err-Other : goal.returns-in-Err-Other
returns-in-Err-Other c =
    (other_part c.in-Err-Other.part, rw c.in-Err-Other.field-0-is at (rw c.in-Err-Other.is at c.in_ok-line.ensures.read), (refl, c.of_line-in-Err-Other.ensures ∙ (rw c.in-Err-Other.field-0-is at c.part_refusal-in-Err-Other.ensures)))
