use Rattle.std.proofs.Common.{◌≡◌, ◌++◌, take}
use Rattle.sketch_checker.specs.LineWalk.{going}
use Rattle.cert_checker.proofs.sketch_walking.add_all_prices.Given as goal

abbrev pub invariant-loop-line : goal.invariant-loop-line
invariant-loop-line l = record {
  setting : l.walk.setting ≡ record l.fn.walk.setting { prices = l.fn.walk.setting.prices ++ take l.line-index l.prices };
  kept : going l.walk.opened l.walk.frames ≡ going l.fn.walk.opened l.fn.walk.frames;
}
