use Rattle.std.proofs.Common.{length}
use Rattle.cert_text.specs.Lines.{cut}
use Rattle.cert_text.proofs.HeadLines.{HeadSoFar}
use Rattle.cert_text.proofs.headers.read_header.Given as goal

abbrev pub invariant-lines : goal.invariant-lines
invariant-lines l = HeadSoFar l.bytes l.rest l.due l.number

abbrev pub decreases-lines : goal.decreases-lines
decreases-lines l = length (cut l.rest)
