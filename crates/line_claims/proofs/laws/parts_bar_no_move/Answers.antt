use Rattle.line_claims.proofs.Barring.{parts_bar}
use Rattle.line_claims.proofs.laws.parts_bar_no_move.Goals as goal

pub returns : goal.returns
returns c = parts_bar
