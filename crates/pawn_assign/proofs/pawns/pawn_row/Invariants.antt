use Rattle.std.proofs.Common.{◌≡◌, ◌≤◌, ℕ, ◌<◌, length, slice_index}
use Rattle.pawn_assign.specs.PawnCosts.{pawn_cost}
use Rattle.pawn_assign.proofs.pawns.pawn_row.Given as goal

abbrev pub invariant-loop-file : goal.invariant-loop-file
invariant-loop-file l = record {
  size : length l.row ≡ 8;
  done : (k : ℕ) → k < l.file → slice_index l.row k ≡ pawn_cost l.fn.odds l.side l.s k;
  small : (k : ℕ) → k < l.file → slice_index l.row k ≤ 64;
}
