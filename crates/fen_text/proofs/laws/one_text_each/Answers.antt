use Rattle.fen_text.proofs.OneText.{four_spelled, four_equal, four_short}
use Rattle.fen_text.proofs.laws.one_text_each.Goals as goal

pub returns-clause-spelled : goal.returns-clause-spelled
returns-clause-spelled c = four_spelled

pub returns-clause-equal : goal.returns-clause-equal
returns-clause-equal c = four_equal

pub returns-clause-short : goal.returns-clause-short
returns-clause-short c = four_short
