use Rattle.std.proofs.Common.{◌≡◌, ◌-◌, ◌<◌, ℕ, drop, length, slice_index}
use Rattle.capture_prices.specs.Prices.{toll_at}
use Rattle.balance_rule.specs.LeastWays.{seen_by}
use Rattle.balance_rule.proofs.tariffs.gates_seen.Given as goal

abbrev pub invariant-loop-k : goal.invariant-loop-k
invariant-loop-k l = record {
  size : length l.seen ≡ 64;
  number : l.n ≡ length l.gates;
  done : (i : ℕ) → i < 64 → slice_index l.seen i ≡ toll_at (drop (l.n - l.k) l.gates) (seen_by l.side i);
}
