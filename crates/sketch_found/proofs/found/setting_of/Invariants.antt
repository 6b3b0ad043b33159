use Rattle.std.proofs.Common.{◌≡◌, ◌≤◌, take}
use Rattle.sketch_found.proofs.found.setting_of.Given as goal

abbrev pub invariant-loop-line : goal.invariant-loop-line
invariant-loop-line l = record {
  setting : l.setting ≡ record { odds = l.query.odds; held = l.query.held; exact = l.exact; prices = take l.line-index l.prices };
  few : l.line-index ≤ 64;
}
