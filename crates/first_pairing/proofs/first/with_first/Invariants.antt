use Rattle.std.proofs.Common.{◌≡◌, ◌∷◌, take}
use Rattle.first_pairing.proofs.first.with_first.Given as goal

abbrev pub invariant-loop-x : goal.invariant-loop-x
invariant-loop-x l = l.all.items ≡ l.column ∷ take l.x-index l.columns.items
