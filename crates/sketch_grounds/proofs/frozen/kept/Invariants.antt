use Rattle.std.proofs.Common.{◌≡◌, ◌<◌, ℕ, length, take}
use Rattle.std.specs.List.{list_any}
use Rattle.board_base.specs.Board.{is_in}
use Rattle.sketch_grounds.specs.Pins.{stays}
use Rattle.sketch_grounds.proofs.frozen.kept.Given as goal

abbrev pub invariant-loop-pin : goal.invariant-loop-pin
invariant-loop-pin l = record {
  size : length l.left ≡ 64;
  each : (s : ℕ) → s < 64 → is_in l.left s ≡ list_any (stays l.fn.set s) (take l.pin-index l.pins);
}
