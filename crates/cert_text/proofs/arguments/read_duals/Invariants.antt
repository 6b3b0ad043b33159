use Rattle.cert_text.proofs.WordTexts.{RowsSoFar}
use Rattle.cert_text.proofs.arguments.read_duals.Given as goal

abbrev pub invariant-loop-n : goal.invariant-loop-n
invariant-loop-n g l = RowsSoFar g.row.W l.text l.n l.rest l.u.items
