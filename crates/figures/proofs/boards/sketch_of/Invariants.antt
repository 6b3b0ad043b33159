use Rattle.std.proofs.Common.{◌≡◌, ◌≤◌, ◌-◌, ◌++◌, length}
use Rattle.std.specs.List.{flat_map, range_with_len}
use Rattle.board_base.specs.Board.{at}
use Rattle.past_sketches.specs.Figures.{figure_of}
use Rattle.figures.proofs.boards.sketch_of.Given as goal

abbrev pub invariant-loop-i : goal.invariant-loop-i
invariant-loop-i l = record {
  all : l.sketch ++ flat_map (λ s. figure_of s (at l.board s)) (range_with_len l.i (64 - l.i)) ≡ flat_map (λ s. figure_of s (at l.board s)) (range_with_len 0 64);
  few : length l.sketch ≤ 32;
}
