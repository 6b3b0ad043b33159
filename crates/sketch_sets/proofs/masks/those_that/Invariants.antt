use Rattle.std.proofs.Common.{◌≡◌, ◌-◌, ◌<◌, ◌≤◌, ℕ, Bool, true}
use Rattle.board_base.specs.Board.{is_in}
use Rattle.sketch_sets.proofs.Sets.{Those}
use Rattle.sketch_sets.proofs.masks.those_that.Given as goal

abbrev pub invariant-squares : goal.invariant-squares
invariant-squares g l = record {
  low : l.i ≤ 64;
  those : (p : ℕ → Bool) → ((s : ℕ) (b : Bool) → s < 64 → is_in l.set s ≡ true → goal.F-post g l.fn.test s b → b ≡ p s) → Those l.set p l.those l.i;
}

abbrev pub decreases-squares : goal.decreases-squares
decreases-squares g l = 64 - l.i
