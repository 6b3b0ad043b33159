use Rattle.std.proofs.Common.{◌≡◌, ◌+◌, drop, map}
use Rattle.sketch_body.specs.Seen.{line_of}
use Rattle.sketch_checker.specs.LineWalk.{going}
use Rattle.cert_checker.specs.SketchLines.{AreDue}
use Rattle.cert_checker.proofs.SketchDue.{LeadsOn}
use Rattle.cert_checker.proofs.sketch_walking.take_all_lines.Given as goal

abbrev pub invariant-loop-line : goal.invariant-loop-line
invariant-loop-line l = record {
  due : AreDue l.walk.opened l.walk.frames (map line_of (drop l.line-index l.lines));
  setting : l.walk.setting ≡ l.fn.walk.setting;
  place : l.number ≡ l.first + l.line-index;
  walked : LeadsOn l.fn.walk.setting (going l.walk.opened l.walk.frames) l.number (map line_of (drop l.line-index l.lines)) (going l.fn.walk.opened l.fn.walk.frames) l.first (map line_of l.lines);
}
