use Rattle.std.proofs.Common.{◌≡◌, ◌-◌}
use Rattle.std.specs.List.{list_any, range_with_len}
use Rattle.check_origins.specs.Near.{checks_nearby, is_near_checker}
use Rattle.check_origins.proofs.near.is_near_checker.Given as goal

abbrev pub invariant-loop-i : goal.invariant-loop-i
invariant-loop-i l = list_any (λ k. checks_nearby l.board l.side l.s k) (range_with_len l.i (64 - l.i)) ≡ is_near_checker l.board l.side l.s
