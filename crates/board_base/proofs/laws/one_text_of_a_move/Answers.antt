use Rattle.board_base.proofs.OneText.{move_read}
use Rattle.board_base.proofs.laws.one_text_of_a_move.Goals as goal

pub returns : goal.returns
returns c = record {
  text = λ text m read. (move_read text m read).spelling;
  promotion = λ text m read. (move_read text m read).promotion;
}
