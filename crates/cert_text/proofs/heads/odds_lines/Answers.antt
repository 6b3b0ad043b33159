use Rattle.std.proofs.Common.{ap, sym, length}
use Rattle.std.proofs.lemmas.Bool.{both_ways}
use Rattle.cert_text.specs.Certificate.{Lines}
use Rattle.cert_text.proofs.HeadTexts.{no_odds_line, some_odds_line}
use Rattle.cert_text.proofs.heads.odds_lines.Goals as goal

pub returns-then-is_none : goal.returns-then-is_none
returns-then-is_none c = sym (ap (λ (ls : Lines). length ls) (no_odds_line c.args.odds (c.is_none.ensures.0 c.if-is_none.true)))

pub returns-else-is_none : goal.returns-else-is_none
returns-else-is_none c =
    sym (ap (λ (ls : Lines). length ls) (some_odds_line c.args.odds (λ none. both_ways c.is_none.result c.if-is_none.false (c.is_none.ensures.1 none))))
