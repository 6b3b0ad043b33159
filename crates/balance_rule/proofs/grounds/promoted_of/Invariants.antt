use Rattle.std.proofs.Common.{◌≡◌, ◌+◌, ◌<◌, ℕ, [], length, slice_index_or}
use Rattle.board_base.specs.Board.{man}
use Rattle.cage_rules.specs.Regions.{region_from}
use Rattle.balance_rule.specs.LeastWays.{seen_by}
use Rattle.balance_rule.proofs.grounds.promoted_of.Given as goal

abbrev pub invariant-loop-f : goal.invariant-loop-f
invariant-loop-f l = record {
  size : length l.regions ≡ 8;
  done : (f : ℕ) → f < l.f → slice_index_or l.regions f [] ≡ region_from l.frozen (man l.fn.side l.fn.kind) (seen_by l.side (56 + f));
}
