use Rattle.std.proofs.Common.{◌≡◌, ◌<◌, ℕ, Bool, false}
use Rattle.past_sketches.proofs.Filling.{Filled}
use Rattle.figures.proofs.sets.squares_that.Given as goal

abbrev pub invariant-loop-i : goal.invariant-loop-i
invariant-loop-i g l = (p : ℕ → Bool) → ((s : ℕ) (b : Bool) → s < 64 → goal.F-post g l.fn.test s b → b ≡ p s) → Filled p false l.set l.i
