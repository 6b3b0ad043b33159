use Rattle.std.proofs.Common.{◌≡◌, ◌-◌, ◌&&◌}
use Rattle.std.specs.List.{list_any, range_with_len}
use Rattle.san_text.specs.Spelling.{any_rival, is_rival, shares}
use Rattle.san_text.proofs.naming.any_rival.Given as goal

abbrev pub invariant-loop-i : goal.invariant-loop-i
invariant-loop-i l =
    list_any (λ s. shares l.shared s l.m.from && is_rival l.state l.kind l.m s) (range_with_len l.i (64 - l.i)) ≡ any_rival l.shared l.state l.kind l.m
