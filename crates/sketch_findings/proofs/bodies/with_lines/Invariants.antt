use Rattle.std.proofs.Common.{◌≡◌, map, take}
use Rattle.sketch_body.specs.Seen.{line_of}
use Rattle.sketch_findings.proofs.bodies.with_lines.Given as goal

abbrev pub invariant-loop-line : goal.invariant-loop-line
invariant-loop-line l = l.body ≡ record { files = l.fn.bare.files; prices = l.fn.bare.prices; lines = map line_of (take l.line-index l.lines) }
