use Rattle.std.proofs.Common.{rules}
use Rattle.ledger_lines.specs.Known.{is_left}
use Rattle.ledger_told.proofs.pawns.homes_left.Goals as goal

pub returns : goal.returns
returns c = c.squares_that.ensures (is_left c.args.query.now c.args.ledger.now c.args.s) (λ h b low post. search rules)
