use Rattle.std.proofs.Common.{ℕ, List, ◌-◌, length, Bor}
use Rattle.line_claims.proofs.StepTexts.{ReadSoFar}
use Rattle.line_claims.proofs.reading.read_steps.Given as goal

abbrev pub invariant-loop-rest : goal.invariant-loop-rest
invariant-loop-rest l = ReadSoFar (λ (r : Bor (List ℕ)). r.now) l.text l.steps l.rest

abbrev pub decreases-loop-rest : goal.decreases-loop-rest
decreases-loop-rest l = 16 - length l.steps
