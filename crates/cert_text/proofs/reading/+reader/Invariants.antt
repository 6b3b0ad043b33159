use Rattle.std.proofs.Common.{◌+◌, ◌-◌, ◌*◌}
use Rattle.cert_text.specs.Lines.{cut}
use Rattle.cert_text.specs.Reading.{ReadsKids}
use Rattle.cert_text.proofs.reading.+reader.Given as goal

abbrev pub decreases-read_below : goal.decreases-read_below
decreases-read_below l = 2 * (255 - l.depth) + 1

abbrev pub decreases-read_kids : goal.decreases-read_kids
decreases-read_kids l = 2 * (255 - l.depth)

abbrev pub invariant-read_kids-loop-i : goal.invariant-read_kids-loop-i
invariant-read_kids-loop-i l = ReadsKids l._i l.depth (cut l.fn.bytes) l.fn.line l.units l.kids (cut l.rest) l.next l.all
