use Rattle.std.proofs.Common.{◌≡◌, ◌<◌, drop, max}
use Rattle.board_base.specs.Board.{file}
use Rattle.sketch_list.specs.Listed.{is_under, next_above}
use Rattle.sketch_walk.proofs.places.next_above.Given as goal

abbrev pub invariant-loop-figure : goal.invariant-loop-figure
invariant-loop-figure l = record {
  low : l.place < 128;
  highest : max l.place (next_above (is_under l.sketch (file l.s) l.above) (drop l.figure-index l.figure-items)) ≡ next_above (is_under l.sketch (file l.s) l.above) l.figure-items;
}
