use Rattle.std.proofs.Common.{◌≡◌, map}
use Rattle.std.specs.List.{sum_by}
use Rattle.sketch_body.specs.Bodies.{units_of_line}
use Rattle.sketch_body.specs.Seen.{line_of}
use Rattle.sketch_body.specs.Whole.{left_of}
use Rattle.sketch_body.proofs.Taking.{from}
use Rattle.sketch_body.proofs.charges.lines_left.Given as goal

abbrev pub invariant-loop-line : goal.invariant-loop-line
invariant-loop-line l = left_of l.rest (sum_by units_of_line (from l.lines l.line-index)) ≡ left_of l.left (sum_by units_of_line (map line_of l.lines))
