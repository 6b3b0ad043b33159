use Rattle.std.proofs.Common.{◌≡◌, ◌<◌, ℕ}
use Rattle.board_base.specs.Board.{is_in}
use Rattle.sketch_sets.specs.Shifts.{comes_by}
use Rattle.sketch_sets.proofs.shifts.ray.Given as goal

abbrev pub invariant-loop : goal.invariant-loop
invariant-loop l = (e : ℕ) → e < 64 → is_in l.from e ≡ comes_by l.fn.direction l.to l.fixed l.counter e
