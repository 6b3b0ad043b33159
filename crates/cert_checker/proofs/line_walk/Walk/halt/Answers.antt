use Rattle.cert_checker.proofs.Halting.{halted_ready}
use Rattle.cert_checker.proofs.line_walk.Walk.halt.Goals as goal

pub invariant_of-self : goal.invariant_of-self
invariant_of-self c = rw c.stop-self-inside.ensures (halted_ready _ _ _ _ _)
