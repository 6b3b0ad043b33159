use Rattle.std.proofs.Common.{◌≡◌, ◌<◌, ◌||◌, ℕ, [], length, slice_index_or}
use Rattle.board_base.specs.Board.{is_in}
use Rattle.sketch_account.proofs.grounds.some_of.Given as goal

abbrev pub invariant-loop-f : goal.invariant-loop-f
invariant-loop-f l = record {
  size : length l.sets ≡ 8;
  done : (f s : ℕ) → f < l.f → s < 64 → is_in (slice_index_or l.sets f []) s ≡ (is_in (slice_index_or l.a f []) s || is_in (slice_index_or l.b f []) s || is_in (slice_index_or l.c f []) s || is_in (slice_index_or l.d f []) s);
}
