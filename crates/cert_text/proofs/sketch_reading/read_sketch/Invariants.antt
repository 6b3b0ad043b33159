use Rattle.std.proofs.Common.{length}
use Rattle.cert_text.specs.Lines.{cut}
use Rattle.cert_text.specs.Reading.{ReadsSketch}
use Rattle.cert_text.proofs.sketch_reading.read_sketch.Given as goal

abbrev pub invariant-lines : goal.invariant-lines
invariant-lines l = ReadsSketch l.units l.head (cut l.bytes) l.line l.due l.body (cut l.rest) l.next

abbrev pub decreases-lines : goal.decreases-lines
decreases-lines l = length (cut l.rest)
