use Rattle.std.proofs.Common.{◌≡◌, ◌+◌, ◌<◌, ℕ, [], length, slice_index_or}
use Rattle.board_base.specs.Board.{man}
use Rattle.balance_rule.specs.LeastWays.{seen_by}
use Rattle.sketch_grounds.specs.Zones.{reached_from, roams_past}
use Rattle.sketch_account.proofs.grounds.promoted_of.Given as goal

abbrev pub invariant-loop-f : goal.invariant-loop-f
invariant-loop-f l = record {
  size : length l.rooms ≡ 8;
  done : (f : ℕ) → f < l.f → slice_index_or l.rooms f [] ≡ reached_from (roams_past l.wall l.zones (man l.fn.side l.fn.kind)) (seen_by l.side (56 + f));
}
