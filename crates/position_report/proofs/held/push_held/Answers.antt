use Rattle.std.proofs.Common.{List, ℕ, ◌++◌, ap, ◌∙◌}
use Rattle.query_base.specs.Asked.{Asked}
use Rattle.std.proofs.lemmas.Result.{IfOk-equal}
use Rattle.ledger_told.specs.Line.{Line}
use Rattle.ledger_prose.specs.Sentences.{sentences_of}
use Rattle.ledger_prose.specs.Words.{prose_text}
use Rattle.position_report.specs.Held.{behind_if, if_lines}
use Rattle.position_report.proofs.held.push_held.Goals as goal

pub returns : goal.returns
returns c =
    let x = c.args.found.now.castle in
    let prose = c.new-prose.result.items in
    let written =
    c.in_ok-tell_ledger_prose.ensures
    ∙ ap (λ (l : List ℕ). l ++ prose_text c.with_held-held.result (sentences_of c.with_held-held.result c.as_slice.result.now)) c.new-prose.ensures.items
    ∙ ap (λ (l : List Line). prose_text c.with_held-held.result (sentences_of c.with_held-held.result l)) (c.as_slice.ensures.value ∙ c.in_ok-lines.ensures)
    ∙ ap (λ (q : Asked). prose_text q (sentences_of q (if_lines c.args.known.now c.args.found.now))) c.with_held-held.ensures in
    IfOk-equal c.push_behind.result _ _ _ c.push_behind.ensures (ap (λ (l : List ℕ). c.args.out.now.items ++ behind_if x l) (c.as_slice-2.ensures.value ∙ written))
