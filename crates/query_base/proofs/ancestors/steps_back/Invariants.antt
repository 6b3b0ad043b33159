use Rattle.std.proofs.Common.{ℕ, suc, ◌<◌, reverse}
use Rattle.query_base.specs.Ancestors.{CoversAt}
use Rattle.query_base.proofs.ancestors.steps_back.Given as goal

abbrev pub invariant-loop-i : goal.invariant-loop-i
invariant-loop-i l = (k : ℕ) → k < l.i → CoversAt l.query (reverse l.ancestors) (suc k) → ⊥
