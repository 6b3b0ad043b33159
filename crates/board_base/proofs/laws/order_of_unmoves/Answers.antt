use Rattle.board_base.proofs.Ordered.{unmove_order_total, unmove_order_exact}
use Rattle.board_base.proofs.laws.order_of_unmoves.Goals as goal

pub returns : goal.returns
returns c = record { total = unmove_order_total; exact = unmove_order_exact }
