use Rattle.std.proofs.Common.{◌<◌, ℕ}
use Rattle.ledger_search.specs.Contradictions.{IsContradictedAt}
use Rattle.ledger_search.proofs.contradictions.is_contradicted.Given as goal

abbrev pub invariant-loop-i : goal.invariant-loop-i
invariant-loop-i l = (s : ℕ) → s < l.i → IsContradictedAt l.query l.ledger s → ⊥
