use Rattle.std.proofs.Common.{◌≡◌, ◌++◌}
use Rattle.std.specs.List.{flat_map, range_with_len}
use Rattle.balance_prose.specs.AccountWords.{idle_if}
use Rattle.balance_prose.proofs.lacking.push_idle.Given as goal

abbrev pub invariant-loop-j : goal.invariant-loop-j
invariant-loop-j l = l.list.items ≡ l.fn.list.items ++ flat_map (idle_if l.side l.gone l.homes) (range_with_len 0 l.j)
