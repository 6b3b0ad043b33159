use Rattle.std.proofs.Common.{◌≡◌, ℕ, ◌<◌, length}
use Rattle.board_base.specs.Board.{at, recoloured, reflected}
use Rattle.board_base.proofs.boards.Board.mirror.Given as goal

abbrev pub invariant-loop-i : goal.invariant-loop-i
invariant-loop-i l = record {
  size : length l.board ≡ 64;
  done : (k : ℕ) → k < l.i → at l.board k ≡ recoloured (at l.self (reflected k));
}
