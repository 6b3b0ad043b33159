use Rattle.std.proofs.Common.{◌≡◌, drop}
use Rattle.sketch_words.proofs.crowds.first_lacking.Given as goal
use Rattle.sketch_words.specs.Crowds.{first_lacking}

abbrev pub invariant-loop-i : goal.invariant-loop-i
invariant-loop-i l = first_lacking l.fn.lack l.fn.odds l.sketch l.i (drop l.i l.sketch) ≡ first_lacking l.fn.lack l.fn.odds l.sketch 0 l.sketch
