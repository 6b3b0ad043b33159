use Rattle.std.proofs.Common.{ap, arith}
use Rattle.balance_rule.specs.Balance.{men_on}
use Rattle.board_base.specs.Board.{array_of}
use Rattle.query_base.specs.Asked.{Asked}
use Rattle.balance_prose.proofs.lacking.standing.Goals as goal

pub squares_of_men-requires : goal.squares_of_men-requires
squares_of_men-requires c =
    let board = ap (λ (q : Asked). men_on c.args.side q.board) c.query.view_is in
    let array = ap (λ (q : Asked). men_on c.args.side (array_of q.odds)) c.query.view_is in
    omega (arith, board, array, c.requires, c.begun_with.ensures.number, c.begun_with.ensures.few)
