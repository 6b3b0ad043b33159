use Rattle.std.proofs.Common.{◌≡◌, ℕ, ◌<◌, false, length}
use Rattle.board_base.specs.Board.{is_in}
use Rattle.unmove_gen.specs.Ready.{IsNoTarget}
use Rattle.unmove_gen.proofs.targets.targets_of.Given as goal

abbrev pub invariant-loop-i : goal.invariant-loop-i
invariant-loop-i l = record {
  size : length l.targets ≡ 64;
  none : (t : ℕ) → t < l.i → is_in l.targets t ≡ false → IsNoTarget l.query t;
}
