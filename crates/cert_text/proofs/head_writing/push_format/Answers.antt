use Rattle.std.proofs.Common.{◌++◌, sym, ap, ◌∙◌}
use Rattle.std.proofs.lemmas.Bool.{both_ways}
use Rattle.cert_text.specs.Certificate.{Lines, demand_lines, format_for}
use Rattle.cert_text.specs.Lines.{ended}
use Rattle.cert_text.specs.Written.{format_text}
use Rattle.cert_text.specs.declared.heads.Format.{Format}
use Rattle.cert_text.proofs.HeadTexts.{second_format}
use Rattle.cert_text.proofs.head_writing.push_format.Goals as goal

pub returns-then-is_undemanding-clause-line : goal.returns-then-is_undemanding-clause-line
returns-then-is_undemanding-clause-line c =
    let none = c.is_undemanding.ensures.0 c.if-is_undemanding.true in
    c.push_text.ensures.text ∙ ap (λ (ls : Lines). c.args.out.now.items ++ ended (format_text (format_for ls))) (sym none)

pub returns-else-is_undemanding-clause-line : goal.returns-else-is_undemanding-clause-line
returns-else-is_undemanding-clause-line c =
    let second = second_format (demand_lines c.args.query.now) (λ none. both_ways c.is_undemanding.result c.if-is_undemanding.false (c.is_undemanding.ensures.1 none)) in
    c.push_text-else-is_undemanding.ensures.text ∙ ap (λ (f : Format). c.args.out.now.items ++ ended (format_text f)) (sym second)
