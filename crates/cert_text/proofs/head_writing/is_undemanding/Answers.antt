use Rattle.std.proofs.Common.{ap, ◌∙◌}
use Rattle.std.proofs.lemmas.Bool.{both_ways}
use Rattle.query_base.specs.Asked.{Asked}
use Rattle.cert_text.proofs.HeadTexts.{no_lines}
use Rattle.cert_text.proofs.head_writing.is_undemanding.Goals as goal

pub returns-else-is_none : goal.returns-else-is_none
returns-else-is_none c = (
  λ t. absurd (both_ways c.is_none.result c.if-is_none.false t),
  λ e. absurd (both_ways c.is_none.result c.if-is_none.false (c.is_none.ensures.1 (ap (λ (q : Asked). q.odds) c.query.view_is ∙ (no_lines c.args.query.now e).0))),
)
