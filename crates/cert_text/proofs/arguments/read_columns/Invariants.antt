use Rattle.cert_text.proofs.WordTexts.{ColumnsSoFar}
use Rattle.cert_text.proofs.arguments.read_columns.Given as goal

abbrev pub invariant-loop-i : goal.invariant-loop-i
invariant-loop-i g l = ColumnsSoFar g.row.W l.text l.i l.rest l.v
