use Rattle.std.proofs.Common.{refl, ap, ◌∙◌}
use Rattle.cert_text.specs.Lines.{cut}
use Rattle.cert_checker.specs.Answers.{accepted, bad_text, fault}
use Rattle.cert_checker.specs.Walk.{unlisted, unsupported}
use Rattle.command_answers.specs.Checks.{refusal_line}
use Rattle.command_answers.specs.declared.statuses.Status.TheVariants.{Done, Refused}
use Rattle.command_answers.proofs.Inputs.{told}
use Rattle.command_answers.proofs.checks.answer_check.Goals as goal

pub accepted-requires-clause-plain : goal.accepted-requires-clause-plain
accepted-requires-clause-plain g c =
    let all = c.in-Ok.ensures.answer in c.accepted_bar_no_move.ensures (cut all.bytes) c.in-Ok.found.claim c.in-Ok.found.query all.answers

pub accepted-requires-clause-promotion : goal.accepted-requires-clause-promotion
accepted-requires-clause-promotion g c =
    let all = c.in-Ok.ensures.answer in c.accepted_have_texts.ensures (cut all.bytes) c.in-Ok.found.claim c.in-Ok.found.query all.answers

pub unlisted-requires-clause-promotion : goal.unlisted-requires-clause-promotion
unlisted-requires-clause-promotion g c =
    let all = rw c.in-Err-Unlisted.field-0-is at c.in-Err-Unlisted.ensures.answer in c.unlisted_have_texts.ensures.promotion (cut all.bytes) _ _ all.answers

pub unlisted-requires-clause-capture : goal.unlisted-requires-clause-capture
unlisted-requires-clause-capture g c =
    let all = rw c.in-Err-Unlisted.field-0-is at c.in-Err-Unlisted.ensures.answer in c.unlisted_have_texts.ensures.capture (cut all.bytes) _ _ all.answers

pub returns-in-Ok-clause-answer : goal.returns-in-Ok-clause-answer
returns-in-Ok-clause-answer g c =
    let claim = c.in-Ok.found.claim in
    let query = c.in-Ok.found.query in
    told _ _ _ (accepted claim query) Done _ c.in-Ok.ensures.answer (λ lines answers. (refl, c.accepted.ensures))

pub returns-in-Err-BadText-clause-answer : goal.returns-in-Err-BadText-clause-answer
returns-in-Err-BadText-clause-answer g c =
    told _ _ _ (bad_text c.in-Err-BadText.line) Refused _ (rw c.in-Err-BadText.field-0-is at c.in-Err-BadText.ensures.answer) (λ lines answers. (refl, c.refusal.ensures))

pub returns-in-Err-Unlisted-clause-answer : goal.returns-in-Err-Unlisted-clause-answer
returns-in-Err-Unlisted-clause-answer g c =
    told _ _ _ (fault c.in-Err-Unlisted.line (unlisted c.in-Err-Unlisted.unmove)) Refused _ (rw c.in-Err-Unlisted.field-0-is at c.in-Err-Unlisted.ensures.answer) (λ lines answers. (refl, c.unlisted.ensures))

pub returns-in-Err-Unsupported-clause-answer : goal.returns-in-Err-Unsupported-clause-answer
returns-in-Err-Unsupported-clause-answer g c =
    told _ _ _ (fault c.in-Err-Unsupported.line (unsupported c.in-Err-Unsupported.why)) Refused _ (rw c.in-Err-Unsupported.field-0-is at c.in-Err-Unsupported.ensures.answer) (λ lines answers. (refl, c.refusal-in-Err-Unsupported.ensures ∙ ap (refusal_line c.in-Err-Unsupported.line) c.word.ensures))
