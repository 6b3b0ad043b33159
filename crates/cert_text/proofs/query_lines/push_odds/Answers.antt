use Rattle.std.proofs.Common.{◌++◌, ap, sym, ◌∙◌, List, ℕ}
use Rattle.std.proofs.lemmas.Bool.{both_ways}
use Rattle.cert_text.specs.Lines.{ended}
use Rattle.cert_text.proofs.HeadTexts.{odds_bytes}
use Rattle.cert_text.proofs.query_lines.push_odds.Goals as goal

pub returns-clause-lines : goal.returns-clause-lines
returns-clause-lines c =
    let bytes = odds_bytes c.args.odds (λ none. both_ways c.is_none.result c.if-is_none.false (c.is_none.ensures.1 none)) in
    c.push_ended.ensures.line ∙ ap (λ (l : List ℕ). c.args.out.now.items ++ l) (ap ended (c.as_slice.ensures.value ∙ c.write_odds.ensures.text) ∙ sym bytes)
