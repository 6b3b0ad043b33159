use Rattle.std.proofs.Common.{◌≡◌, ℕ, ◌<◌, ◌∷◌, get_or, true}
use Rattle.proof_prose.specs.Paragraphs.{joins}
use Rattle.proof_prose.proofs.paragraphs.run_length.Given as goal

abbrev pub invariant-loop-i : goal.invariant-loop-i
invariant-loop-i l = (k : ℕ) → k < l.i → joins (get_or (l.first ∷ l.rest) k l.first) (get_or l.rest k l.first) ≡ true
