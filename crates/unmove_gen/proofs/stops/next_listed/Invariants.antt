use Rattle.std.proofs.Common.{◌≡◌, ℕ, ◌-◌, ◌<◌, ◌≤◌, false, get_or}
use Rattle.unmove_gen.proofs.stops.next_listed.Given as goal

abbrev pub invariant-loop-place : goal.invariant-loop-place
invariant-loop-place l = record {
  high : l.fn.start ≤ l.place;
  low : l.place ≤ 7;
  none : (r : ℕ) → l.fn.start ≤ r → r < l.place → get_or l.listed r false ≡ false;
}

abbrev pub decreases-loop-place : goal.decreases-loop-place
decreases-loop-place l = 7 - l.place
