use Rattle.std.proofs.Common.{refl}
use Rattle.cert_text.specs.Lines.{cut}
use Rattle.length_bound.specs.LengthAnswers.{at_least, bad_text, unsupported}
use Rattle.command_answers.specs.declared.statuses.Status.TheVariants.{Done, Refused}
use Rattle.command_answers.proofs.Inputs.{bound_told}
use Rattle.command_answers.proofs.atleasts.answer_atleast.Goals as goal

pub bound-requires : goal.bound-requires
bound-requires g c =
    let all = c.in-Ok.ensures.answer in
    let plain = c.one_length_text_each.ensures.plain (cut all.bytes) all.answers.0 all.answers.1 in
    rw all.answers.4 at plain

pub returns-in-Ok-clause-answer : goal.returns-in-Ok-clause-answer
returns-in-Ok-clause-answer g c =
    bound_told _ _ _ (at_least c.in-Ok.found.0 c.in-Ok.found.1) Done _ c.in-Ok.ensures.answer (refl, c.bound.ensures)

pub returns-in-Err-BadText-clause-answer : goal.returns-in-Err-BadText-clause-answer
returns-in-Err-BadText-clause-answer g c =
    bound_told _ _ _ (bad_text c.in-Err-BadText.line) Refused _ (rw c.in-Err-BadText.field-0-is at c.in-Err-BadText.ensures.answer) (refl, c.refusal.ensures)

pub returns-in-Err-Unsupported-clause-answer : goal.returns-in-Err-Unsupported-clause-answer
returns-in-Err-Unsupported-clause-answer g c =
    bound_told _ _ _ unsupported Refused _ (rw c.in-Err-Unsupported.field-0-is at c.in-Err-Unsupported.ensures.answer) (refl, c.unsupported.ensures)
