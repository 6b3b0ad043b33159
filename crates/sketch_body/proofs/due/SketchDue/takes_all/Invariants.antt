use Rattle.std.proofs.Common.{◌≡◌, length, map}
use Rattle.sketch_body.specs.Seen.{line_of}
use Rattle.sketch_body.specs.Taken.{takes_each}
use Rattle.sketch_body.proofs.Taking.{from}
use Rattle.sketch_body.proofs.due.SketchDue.takes_all.Given as goal

abbrev pub invariant-loop-line : goal.invariant-loop-line
invariant-loop-line l = record {
  rest : takes_each l.due.due.prices l.due.due (from l.lines l.line-index) ≡ takes_each l.fn.self.due.prices l.fn.self.due (map line_of l.lines);
  wanted : l.due.due.wanted ≡ 0;
}
