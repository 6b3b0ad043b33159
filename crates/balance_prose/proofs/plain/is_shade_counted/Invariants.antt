use Rattle.std.proofs.Common.{◌≡◌, ◌-◌, nat_lt}
use Rattle.std.specs.List.{list_any, range_with_len}
use Rattle.balance_prose.specs.Counted.{is_shade_counted, price_on}
use Rattle.balance_prose.proofs.plain.is_shade_counted.Given as goal

abbrev pub invariant-loop-file : goal.invariant-loop-file
invariant-loop-file l = list_any (λ f. nat_lt 0 (price_on l.takes l.shade f)) (range_with_len l.file (8 - l.file)) ≡ is_shade_counted l.takes l.shade
