use Rattle.fen_text.proofs.ClockTexts.{clock_law}
use Rattle.fen_text.proofs.laws.one_text_of_a_clock.Goals as goal

pub returns : goal.returns
returns c = clock_law
