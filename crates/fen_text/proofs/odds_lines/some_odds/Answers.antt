use Rattle.std.proofs.Common.{ap, ◌∙◌}
use Rattle.fen_text.specs.OddsLines.{odds_of}
use Rattle.fen_text.proofs.OddsTexts.{refused}
use Rattle.fen_text.proofs.odds_lines.some_odds.Goals as goal

pub returns-in-Some : goal.returns-in-Some
returns-in-Some c = c.unless_none.ensures ∙ ap odds_of c.in-Some.ensures.1

pub returns-in-None : goal.returns-in-None
returns-in-None c = refused c.args.set c.in-None.ensures
