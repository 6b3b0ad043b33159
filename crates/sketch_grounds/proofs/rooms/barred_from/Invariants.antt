use Rattle.std.proofs.Common.{◌≡◌, ◌<◌, ℕ, take}
use Rattle.board_base.specs.Board.{is_in}
use Rattle.sketch_grounds.specs.Paces.{is_barred}
use Rattle.sketch_grounds.proofs.rooms.barred_from.Given as goal

abbrev pub invariant-loop-zone : goal.invariant-loop-zone
invariant-loop-zone l = (t : ℕ) → t < 64 → is_in l.barred t ≡ is_barred (take l.zone-index l.zones) t l.fn.u
