use Rattle.std.proofs.Common.{◌≡◌, ◌↔◌, ◌+◌, ◌<◌, ◌^◌, drop, length, map}
use Rattle.sketch_checker.specs.LineWalk.{Walking, WalksOn, going}
use Rattle.sketch_body.specs.Seen.{line_of}
use Rattle.sketch_checker.specs.Walks.{Finishes}
use Rattle.sketch_checker.proofs.checking.finish.Given as goal

abbrev pub invariant-loop-line : goal.invariant-loop-line
invariant-loop-line l = record {
  done : Finishes l.walk (map line_of (drop l.line-index l.lines)) ↔ Finishes l.fn.start (map line_of l.lines);
  setting : l.walk.setting ≡ l.fn.start.setting;
  count : length l.lines < 2 ^ 32 → l.number ≡ l.line-index;
  walked : (last : Walking) → length l.lines < 2 ^ 32 → WalksOn l.fn.start.setting (going l.walk.opened l.walk.frames) (l.line-index + 1) (map line_of (drop l.line-index l.lines)) last → WalksOn l.fn.start.setting (going l.fn.start.opened l.fn.start.frames) 1 (map line_of l.lines) last;
}
