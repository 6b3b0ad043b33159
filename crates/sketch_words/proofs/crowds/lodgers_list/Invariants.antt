use Rattle.std.proofs.Common.{◌≡◌, [], cond}
use Rattle.std.specs.List.{flat_map, range_with_len}
use Rattle.figures.specs.Figures.{figure_at}
use Rattle.sketch_words.proofs.crowds.lodgers_list.Given as goal
use Rattle.sketch_words.specs.Crowds.{is_lodger, named}

abbrev pub invariant-loop-i : goal.invariant-loop-i
invariant-loop-i l = l.list.items ≡ flat_map (λ i. cond (is_lodger l.fn.odds l.figure (figure_at l.wide i)) (named l.diagram i (figure_at l.sketch i)) []) (range_with_len 0 l.i)
