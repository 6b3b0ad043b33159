use Rattle.std.proofs.Common.{refl, ap, ◌∙◌}
use Rattle.cert_checker.specs.Walk.{unlisted, unsupported}
use Rattle.dossier_checker.specs.DossierAnswers.{bad_text_in, fault_in, line_accepted, no_head, no_part, other_part, unlisted_step}
use Rattle.command_answers.specs.Lines.{line_in, part_line}
use Rattle.command_answers.specs.declared.statuses.Status.TheVariants.{Done, Refused}
use Rattle.command_answers.proofs.Inputs.{dossier_told}
use Rattle.command_answers.proofs.lines.answer_line.Goals as goal

pub accepted_steps-requires-clause-plain : goal.accepted_steps-requires-clause-plain
accepted_steps-requires-clause-plain g c =
    let all = c.in-Ok.ensures.answer in c.accepted_lines_are_written.ensures.barred all.bytes c.in-Ok.found.claim c.in-Ok.found.query all.answers

pub accepted_steps-requires-clause-lined : goal.accepted_steps-requires-clause-lined
accepted_steps-requires-clause-lined g c =
    let all = c.in-Ok.ensures.answer in c.accepted_lines_are_written.ensures.line all.bytes c.in-Ok.found.claim c.in-Ok.found.query all.answers

pub unlisted_in-requires-clause-promotion : goal.unlisted_in-requires-clause-promotion
unlisted_in-requires-clause-promotion g c =
    let all = rw c.in-Err-Unlisted.field-0-is at c.in-Err-Unlisted.ensures.answer in c.unlisted_in_parts_have_texts.ensures.promotion all.bytes _ _ _ all.answers

pub unlisted_in-requires-clause-capture : goal.unlisted_in-requires-clause-capture
unlisted_in-requires-clause-capture g c =
    let all = rw c.in-Err-Unlisted.field-0-is at c.in-Err-Unlisted.ensures.answer in c.unlisted_in_parts_have_texts.ensures.capture all.bytes _ _ _ all.answers

pub returns-in-Ok-clause-answer : goal.returns-in-Ok-clause-answer
returns-in-Ok-clause-answer g c =
    dossier_told _ _ _ (line_accepted c.in-Ok.found.claim c.in-Ok.found.query) Done _ c.in-Ok.ensures.answer (refl, c.accepted_steps.ensures)

pub returns-in-Err-Head-clause-answer : goal.returns-in-Err-Head-clause-answer
returns-in-Err-Head-clause-answer g c =
    dossier_told _ _ _ no_head Refused _ (rw c.in-Err-Head.field-0-is at c.in-Err-Head.ensures.answer) (refl, c.no_head.ensures)

pub returns-in-Err-UnlistedStep-clause-answer : goal.returns-in-Err-UnlistedStep-clause-answer
returns-in-Err-UnlistedStep-clause-answer g c =
    dossier_told _ _ _ (unlisted_step c.in-Err-UnlistedStep.step) Refused _ (rw c.in-Err-UnlistedStep.field-0-is at c.in-Err-UnlistedStep.ensures.answer) (refl, c.refused_step.ensures)

pub returns-in-Err-NoPart-clause-answer : goal.returns-in-Err-NoPart-clause-answer
returns-in-Err-NoPart-clause-answer g c =
    dossier_told _ _ _ (no_part c.in-Err-NoPart.part) Refused _ (rw c.in-Err-NoPart.field-0-is at c.in-Err-NoPart.ensures.answer) (refl, c.part_refusal.ensures)

pub returns-in-Err-BadText-clause-answer : goal.returns-in-Err-BadText-clause-answer
returns-in-Err-BadText-clause-answer g c =
    dossier_told _ _ _ (bad_text_in c.in-Err-BadText.part c.in-Err-BadText.line) Refused _ (rw c.in-Err-BadText.field-0-is at c.in-Err-BadText.ensures.answer) (refl, c.part_line_refusal.ensures)

pub returns-in-Err-Unlisted-clause-answer : goal.returns-in-Err-Unlisted-clause-answer
returns-in-Err-Unlisted-clause-answer g c =
    dossier_told _ _ _ (fault_in c.in-Err-Unlisted.part c.in-Err-Unlisted.line (unlisted c.in-Err-Unlisted.unmove)) Refused _ (rw c.in-Err-Unlisted.field-0-is at c.in-Err-Unlisted.ensures.answer) (refl, c.unlisted_in.ensures)

pub returns-in-Err-Unsupported-clause-answer : goal.returns-in-Err-Unsupported-clause-answer
returns-in-Err-Unsupported-clause-answer g c =
    dossier_told _ _ _ (fault_in c.in-Err-Unsupported.part c.in-Err-Unsupported.line (unsupported c.in-Err-Unsupported.why)) Refused _ (rw c.in-Err-Unsupported.field-0-is at c.in-Err-Unsupported.ensures.answer) (refl, c.part_line_refusal-in-Err-Unsupported.ensures ∙ ap (λ what. part_line c.in-Err-Unsupported.part (line_in c.in-Err-Unsupported.line what)) c.word.ensures)

pub returns-in-Err-Other-clause-answer : goal.returns-in-Err-Other-clause-answer
returns-in-Err-Other-clause-answer g c =
    dossier_told _ _ _ (other_part c.in-Err-Other.part) Refused _ (rw c.in-Err-Other.field-0-is at c.in-Err-Other.ensures.answer) (refl, c.part_refusal-in-Err-Other.ensures)
