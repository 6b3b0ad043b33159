use Rattle.fen_text.proofs.OddsTexts.{line_law}
use Rattle.fen_text.proofs.laws.one_text_of_odds.Goals as goal

pub returns : goal.returns
returns c = line_law
