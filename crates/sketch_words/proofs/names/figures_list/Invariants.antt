use Rattle.std.proofs.Common.{◌≡◌, take}
use Rattle.sketch_words.specs.Words.{figures_words}
use Rattle.sketch_words.proofs.names.figures_list.Given as goal

abbrev pub invariant-loop-number : goal.invariant-loop-number
invariant-loop-number l = l.list.items ≡ figures_words l.pawns l.diagram l.sketch (take l.number-index l.numbers)
