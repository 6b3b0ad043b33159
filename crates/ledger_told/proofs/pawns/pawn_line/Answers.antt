use Rattle.std.proofs.Common.{sym, ◌∙◌}
use Rattle.ledger_told.proofs.PawnHomes.{moving-pawn}
use Rattle.ledger_told.proofs.pawns.pawn_line.Goals as goal

pub told_pawn-requires : goal.told_pawn-requires
told_pawn-requires c = moving-pawn c.args.query.now c.args.ledger.now c.args.side c.args.s (sym c.is_moving.ensures ∙ c.if-is_moving.true)
