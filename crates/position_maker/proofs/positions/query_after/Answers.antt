use Rattle.std.proofs.Common.{◌≡◌, ◌∙◌, None}
use Rattle.board_base.specs.Board.{no_odds}
use Rattle.position_maker.proofs.Queries.{query-is}
use Rattle.position_maker.proofs.positions.query_after.Goals as goal

pub returns : goal.returns
returns c g stands =
    let whole = query-is c.args.after.now g c.args.m.now c.if_double.result stands c.if_double.ensures.answer in
    let same : record { board = c.board.result.now; turn = c.turn.result; odds = c.none.result; held = c.rights.result; only = c.if_double.result; barred = None; clock = None } ≡ record { board = c.args.after.now.board; turn = c.args.after.now.turn; odds = no_odds; held = c.args.after.now.rights; only = c.if_double.result; barred = None; clock = None } = λ i. record { board = c.board.ensures i; turn = c.turn.ensures i; odds = c.none.ensures i; held = c.rights.ensures i; only = c.if_double.result; barred = None; clock = None } in
    same ∙ whole
