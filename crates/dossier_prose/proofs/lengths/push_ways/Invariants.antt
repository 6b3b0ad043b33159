use Rattle.std.proofs.Common.{◌≡◌, ◌≤◌, ◌-◌, ◌++◌, drop, length}
use Rattle.std.specs.List.{range_with_len}
use Rattle.dossier_prose.specs.Lengths.{ways_words}
use Rattle.dossier_prose.proofs.lengths.push_ways.Given as goal

abbrev pub invariant-loop-i : goal.invariant-loop-i
invariant-loop-i l = record {
  words : l.out.items ++ ways_words l.odds l.side l.board (range_with_len l.i (64 - l.i)) (drop l.number l.homes) ≡ l.fn.out.items ++ ways_words l.odds l.side l.board (range_with_len 0 64) l.homes;
  within : l.number ≤ length l.homes;
}
