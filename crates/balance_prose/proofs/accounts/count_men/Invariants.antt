use Rattle.std.proofs.Common.{◌≡◌, ◌+◌, ◌*◌, ◌≤◌, drop}
use Rattle.balance_prose.specs.Accounts.{counted_of, made_up, sum_on}
use Rattle.balance_prose.proofs.accounts.count_men.Given as goal

abbrev pub invariant-loop-i : goal.invariant-loop-i
invariant-loop-i l = record {
  counted : l.counted + sum_on counted_of (drop l.i l.rows) (drop l.i l.homes) ≡ sum_on counted_of l.rows l.homes;
  made_up : l.made_up + sum_on made_up (drop l.i l.rows) (drop l.i l.homes) ≡ sum_on made_up l.rows l.homes;
  small : l.counted ≤ 65535 * l.i;
  made_small : l.made_up ≤ 96 * l.i;
}
