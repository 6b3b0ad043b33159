use Rattle.cert_text.proofs.WrittenNumbers.{ColumnsWritten, RowsWritten}
use Rattle.cert_text.proofs.argument_writing.push_duals.Given as goal

abbrev pub invariant-loop-row : goal.invariant-loop-row
invariant-loop-row g l = RowsWritten l.u l.row-index l.fn.out.items l.out.items

abbrev pub invariant-loop-column : goal.invariant-loop-column
invariant-loop-column g l = ColumnsWritten l.v l.column-index l.initial.out.items l.out.items
