use Rattle.std.proofs.Common.{refl}
use Rattle.ledger_told.specs.Told.{one_line}
use Rattle.ledger_told.proofs.Joining.{ok_then}
use Rattle.ledger_told.proofs.telling.add_whole.Goals as goal

pub returns : goal.returns
returns c = ok_then c.add_line.result _ _ (λ e. (one_line c.whole_line-line.result, (c.whole_line-line.result, c.whole_line-line.ensures, refl), e)) c.add_line.ensures
