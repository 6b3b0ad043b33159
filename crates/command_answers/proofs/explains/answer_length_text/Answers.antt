use Rattle.std.proofs.Common.{refl, subst, sym, ◌∙◌}
use Rattle.length_bound.specs.LengthAnswers.{bad_text, unsupported}
use Rattle.dossier_prose.specs.Lengths.{ExplainsLength}
use Rattle.command_answers.proofs.explains.answer_length_text.Goals as goal

pub returns-in_ok-explain_length-in-Ok : goal.returns-in_ok-explain_length-in-Ok
returns-in_ok-explain_length-in-Ok c =
    let explains = subst (ExplainsLength c.in-Ok.said) (sym c.of_lines.ensures) c.in_ok-explain_length-in-Ok.ensures.told in
    (c.in-Ok.said, c.in-Ok.ensures.text, c.in-Ok.ensures.shown, explains)

pub returns-in-Err-BadText : goal.returns-in-Err-BadText
returns-in-Err-BadText c =
    (bad_text c.in-Err-BadText.line, rw c.in-Err-BadText.field-0-is at c.in-Err-BadText.ensures.refused, (refl, c.of_line.ensures ∙ (rw c.in-Err-BadText.field-0-is at c.refusal.ensures)))

pub returns-in-Err-Unsupported : goal.returns-in-Err-Unsupported
returns-in-Err-Unsupported c =
    (unsupported, rw c.in-Err-Unsupported.field-0-is at c.in-Err-Unsupported.ensures.refused, (refl, c.of_line-in-Err-Unsupported.ensures ∙ c.unsupported.ensures))
