use Rattle.std.proofs.Common.{rules, ◌≡◌}
use Rattle.board_base.specs.Board.{at}
use Rattle.castle_history.specs.TakenBack.{castling_back}
use Rattle.castle_history.proofs.Castled.{none-back}
use Rattle.castle_history.proofs.taken_back.castle_of.Goals as goal

pub returns-in-Some-clause-none : goal.returns-in-Some-clause-none
returns-in-Some-clause-none c =
    let castling : c.of_side.result ≡ castling_back c.args.board.now c.args.u.now.mv = search rules in
    none-back (at c.args.board.now c.args.u.now.mv.to) c.args.u.now.mv c.of_side.result castling
