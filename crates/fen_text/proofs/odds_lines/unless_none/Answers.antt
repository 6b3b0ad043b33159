use Rattle.std.proofs.Common.{sym}
use Rattle.std.proofs.lemmas.Bool.{both_ways}
use Rattle.fen_text.proofs.OddsTexts.{none_refused, odds_again}
use Rattle.fen_text.proofs.odds_lines.unless_none.Goals as goal

pub returns-then-is_none : goal.returns-then-is_none
returns-then-is_none c = none_refused c.args.odds (c.is_none.ensures.0 c.if-is_none.true)

pub returns-else-is_none : goal.returns-else-is_none
returns-else-is_none c =
    sym (odds_again c.args.odds c.set.ensures.odds (λ none. both_ways c.is_none.result c.if-is_none.false (c.is_none.ensures.1 none)))
