use Rattle.board_base.proofs.Ordered.{move_order_total, move_order_exact}
use Rattle.board_base.proofs.laws.order_of_moves.Goals as goal

pub returns : goal.returns
returns c = record { total = move_order_total; exact = move_order_exact }
