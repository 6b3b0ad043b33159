use Rattle.std.proofs.Common.{List, ℕ, ◌++◌, ap, ◌∙◌}
use Rattle.verdict_prose.specs.declared.verdicts.Verdict.{Verdict}
use Rattle.position_report.specs.Reports.{verdicts_text}
use Rattle.position_report.proofs.reporting.impossible_part.Goals as goal

pub returns : goal.returns
returns c =
    let q = c.args.query.now in
    c.in_ok-push_verdicts.ensures
    ∙ ap (λ (l : List ℕ). l ++ verdicts_text q c.as_slice.result.now) c.new-part.ensures.items
    ∙ ap (λ (l : List Verdict). verdicts_text q l) (c.as_slice.ensures.value ∙ c.in_ok-verdicts.ensures)
