use Rattle.std.proofs.Common.{◌≡◌, ◌++◌, drop, map}
use Rattle.sketch_body.specs.Seen.{line_of}
use Rattle.sketch_body.proofs.bodies.copied_lines.Given as goal

abbrev pub invariant-loop-line : goal.invariant-loop-line
invariant-loop-line l = map line_of l.copies.items ++ map line_of (drop l.line-index l.lines) ≡ map line_of l.lines
