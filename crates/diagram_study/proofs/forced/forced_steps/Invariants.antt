use Rattle.std.proofs.Common.{◌-◌, length}
use Rattle.std.specs.Prelude.{IsTrue, MatchOption}
use Rattle.line_claims.specs.Lines.{has_text}
use Rattle.diagram_study.specs.Forced.{IsForced, IsOpenPlace}
use Rattle.diagram_study.proofs.Forcing.{ForcedSoFar}
use Rattle.diagram_study.proofs.forced.forced_steps.Given as goal

abbrev pub invariant-loop-step : goal.invariant-loop-step
invariant-loop-step l = record {
  so_far : ForcedSoFar l.subject.query l.subject.limits.depth l.subject.limits.nodes l.steps.items l.here;
  next : MatchOption l.step (IsOpenPlace l.here l.subject.limits.depth l.subject.limits.nodes) (λ u. IsForced l.here l.subject.limits.depth l.subject.limits.nodes u × IsTrue (has_text u));
}

abbrev pub decreases-loop-step : goal.decreases-loop-step
decreases-loop-step l = 16 - length l.steps.items
