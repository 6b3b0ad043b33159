use Rattle.std.proofs.Common.{List, ◌++◌, ap, ◌∙◌}
use Rattle.prose_words.proofs.Squares.{thence}
use Rattle.verdict_prose.specs.declared.verdicts.Verdict.{Verdict}
use Rattle.position_report.specs.LastMoves.{TellsLast}
use Rattle.position_report.specs.Reports.{verdicts_text}
use Rattle.position_report.specs.Sayings.{shown_of, unsettled_text}
use Rattle.position_report.proofs.Joining.{from-text}
use Rattle.position_report.proofs.reporting.said_part.Goals as goal

pub returns : goal.returns
returns c =
    let q = c.args.query.now in
    let o = c.new-part.result.items in
    let unsettled = unsettled_text c.args.found.now.illegal.finding in
    let verdicts = verdicts_text q (shown_of q c.args.found.now) in
    let said =
    c.in_ok-push_verdicts.ensures ∙ ap (λ (l : List Verdict). c.push_unsettled.new.out.items ++ verdicts_text q l) (c.as_slice.ensures.value ∙ c.in_ok-verdicts.ensures) in
    from-text (TellsLast q c.args.found.now) o _ _ (unsettled ++ verdicts) c.new-part.ensures.items (thence o _ _ unsettled verdicts c.in_ok-push_unsettled.ensures said) c.in_ok-push_last.ensures
