use Rattle.std.proofs.Common.{◌≡◌, ◌∷◌, take}
use Rattle.proof_sentences.proofs.ways.with_first.Given as goal

abbrev pub invariant-loop-x : goal.invariant-loop-x
invariant-loop-x l = l.all.items ≡ l.file ∷ take l.x-index l.files.items
