use Rattle.sketch_account.proofs.RowsMade.{some-kinds}
use Rattle.sketch_account.proofs.rows.has_kind.Goals as goal

pub returns : goal.returns
returns c = some-kinds c.args.figure.now c.may_be-pawn.result c.may_be-knight.result c.may_be-bishop.result c.may_be-rook.result c.may_be-queen.result c.may_be-king.result c.may_be-pawn.ensures c.may_be-knight.ensures c.may_be-bishop.ensures c.may_be-rook.ensures c.may_be-queen.ensures c.may_be-king.ensures
