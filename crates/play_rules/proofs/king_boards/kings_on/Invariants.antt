use Rattle.std.proofs.Common.{◌≡◌, ℕ, ◌<◌, ◌&&◌, nat_lt, length}
use Rattle.board_base.specs.Board.{at, is_a, is_in}
use Rattle.board_base.specs.declared.men.Kind.TheVariants.{King}
use Rattle.play_rules.proofs.king_boards.kings_on.Given as goal

abbrev pub invariant-loop-i : goal.invariant-loop-i
invariant-loop-i l = record {
  size : length l.kings ≡ 64;
  members : (s : ℕ) → s < 64 → is_in l.kings s ≡ (nat_lt s l.i && is_a King (at l.board s));
}
