use Rattle.std.proofs.Common.{◌≡◌, ◌++◌}
use Rattle.std.specs.List.{flat_map, range_with_len}
use Rattle.balance_prose.specs.AccountWords.{nth_man}
use Rattle.balance_prose.proofs.making.push_men.Given as goal

abbrev pub invariant-loop-k : goal.invariant-loop-k
invariant-loop-k l = l.list.items ≡ l.fn.list.items ++ flat_map (nth_man l.board l.side l.rows l.homes) (range_with_len 0 l.k)
