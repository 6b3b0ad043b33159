use Rattle.board_base.proofs.OneText.{unmove_read}
use Rattle.board_base.proofs.laws.one_text_of_an_unmove.Goals as goal

pub returns : goal.returns
returns c = record {
  text = λ text u read. (unmove_read text u read).spelling;
  promotion = λ text u read. (unmove_read text u read).promotion;
  capture = λ text u read. (unmove_read text u read).capture;
}
