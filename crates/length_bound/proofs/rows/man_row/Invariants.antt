use Rattle.std.proofs.Common.{◌≡◌, ◌≤◌, ℕ, ◌<◌, length, slice_index}
use Rattle.board_base.specs.Board.{home_of}
use Rattle.length_bound.specs.SideBounds.{place_cost}
use Rattle.length_bound.proofs.rows.man_row.Given as goal

abbrev pub invariant-loop-j : goal.invariant-loop-j
invariant-loop-j l = record {
  size : length l.row ≡ 16;
  done : (k : ℕ) → k < l.j → slice_index l.row k ≡ place_cost l.fn.odds l.place l.s (home_of l.side k);
  small : (k : ℕ) → k < l.j → slice_index l.row k ≤ 64;
}
