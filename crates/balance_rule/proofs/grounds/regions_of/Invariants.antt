use Rattle.std.proofs.Common.{◌≡◌, ◌<◌, ℕ, IsTrue, [], length, slice_index_or}
use Rattle.cage_rules.specs.Regions.{is_officer_home, region}
use Rattle.balance_rule.specs.LeastWays.{seen_by}
use Rattle.balance_rule.proofs.grounds.regions_of.Given as goal

abbrev pub invariant-loop-f : goal.invariant-loop-f
invariant-loop-f l = record {
  size : length l.regions ≡ 8;
  done : (f : ℕ) → f < l.f → IsTrue (is_officer_home (seen_by l.side f)) → slice_index_or l.regions f [] ≡ region l.frozen (seen_by l.side f);
}
