use Rattle.std.proofs.Common.{inl, inr, List, refl, subst, sym}
use Rattle.std.proofs.lemmas.Bool.{both_ways}
use Rattle.std.specs.Prelude.{None, Some}
use Rattle.sketch_text.specs.declared.nodes.End.{End}
use Rattle.sketch_text.specs.declared.nodes.End.TheVariants.{Void}
use Rattle.sketch_text.specs.Trees.{Line}
use Rattle.sketch_proof.specs.Proofs.{Setting}
use Rattle.sketch_checker.specs.Walks.{CompletesOpened, Frame}
use Rattle.sketch_checker.specs.LineWalk.{OnEnd, ended, stopped}
use Rattle.sketch_checker.specs.TreeWalk.{unsupported}
use Rattle.sketch_checker.specs.Steering.{EndsNot, EndsWith, IsBelow, read}
use Rattle.sketch_checker.proofs.Below.{closed-below, void-below, void-none}
use Rattle.sketch_checker.proofs.ends.below.Goals as goal

pub returns-then-is_void-clause-frame : goal.returns-then-is_void-clause-frame
returns-then-is_void-clause-frame c =
    subst (λ (e : End). IsBelow c.args.setting.now (read c.args.line e c.args.sketch.now) None) (sym c.in-Void.is)
    (subst (λ (g : Setting). IsBelow g (read c.args.line Void c.args.sketch.now) None) c.setting.view_is (void-below _ c.args.line c.args.sketch.now (c.is_void.ensures.exact.0 c.if-is_void.true)))

pub returns-else-is_void-clause-refused : goal.returns-else-is_void-clause-refused
returns-else-is_void-clause-refused c =
    subst (λ (e : End). (fs : List Frame) (lines : List Line) → CompletesOpened c.args.setting.now (read c.args.line e c.args.sketch.now) fs lines → ⊥) (sym c.in-Void.is)
    (subst (λ (g : Setting). (fs : List Frame) (lines : List Line) → CompletesOpened g (read c.args.line Void c.args.sketch.now) fs lines → ⊥) c.setting.view_is (void-none _ c.args.line c.args.sketch.now (λ void. both_ways c.is_void.result c.if-is_void.false (c.is_void.ensures.exact.1 void))))

pub returns-then-is_closed-clause-frame : goal.returns-then-is_closed-clause-frame
returns-then-is_closed-clause-frame c =
    subst (λ (e : End). IsBelow c.args.setting.now (read c.args.line e c.args.sketch.now) None) (sym c.in-Closed.is)
    (closed-below c.args.setting.now c.args.line c.in-Closed.number c.args.sketch.now (c.is_closed.ensures.0 c.if-is_closed.true))

pub returns-in-Ok-clause-frame : goal.returns-in-Ok-clause-frame
returns-in-Ok-clause-frame c = subst (λ (e : End). IsBelow c.args.setting.now (read c.args.line e c.args.sketch.now) (Some c.in-Ok.frame)) (sym c.in-Steps.is) c.in-Ok.ensures.frame

pub returns-in-Err-clause-refused : goal.returns-in-Err-clause-refused
returns-in-Err-clause-refused c =
    subst (λ (e : End). (fs : List Frame) (lines : List Line) → CompletesOpened c.args.setting.now (read c.args.line e c.args.sketch.now) fs lines → ⊥) (sym c.in-Steps.is) c.in-Err.ensures.refused

pub returns-in-Ok-below_split-clause-frame : goal.returns-in-Ok-below_split-clause-frame
returns-in-Ok-below_split-clause-frame c =
    subst (λ (e : End). IsBelow c.args.setting.now (read c.args.line e c.args.sketch.now) (Some c.in-Ok-below_split.frame)) (sym c.in-Split.is) (c.in-Ok-below_split.ensures.frame c.args.setting.now)

pub returns-in-Err-below_split-clause-refused : goal.returns-in-Err-below_split-clause-refused
returns-in-Err-below_split-clause-refused c =
    subst (λ (e : End). (fs : List Frame) (lines : List Line) → CompletesOpened c.args.setting.now (read c.args.line e c.args.sketch.now) fs lines → ⊥) (sym c.in-Split.is) (c.in-Err-below_split.ensures.refused c.args.setting.now)

pub returns-then-is_void-clause-ended : goal.returns-then-is_void-clause-ended
returns-then-is_void-clause-ended c =
    subst (λ (e : End). (fs : List Frame) → OnEnd e c.args.setting.now c.args.sketch.now c.args.line fs (ended fs)) (sym c.in-Void.is)
    (subst (λ (g : Setting). (fs : List Frame) → OnEnd Void g c.args.sketch.now c.args.line fs (ended fs)) c.setting.view_is (λ fs. inr (c.is_void.ensures.exact.0 c.if-is_void.true, refl)))

pub returns-else-is_void-clause-stopped : goal.returns-else-is_void-clause-stopped
returns-else-is_void-clause-stopped c = (
  refl,
  subst (λ (e : End). (fs : List Frame) → OnEnd e c.args.setting.now c.args.sketch.now c.args.line fs (stopped c.args.line unsupported)) (sym c.in-Void.is)
      (subst (λ (g : Setting). (fs : List Frame) → OnEnd Void g c.args.sketch.now c.args.line fs (stopped c.args.line unsupported)) c.setting.view_is (λ fs. inl ((λ void. both_ways c.is_void.result c.if-is_void.false (c.is_void.ensures.exact.1 void)), refl))),
)

pub returns-in-Err-clause-stopped : goal.returns-in-Err-clause-stopped
returns-in-Err-clause-stopped c = subst (λ (e : End). EndsNot c.args.setting.now e c.args.sketch.now c.args.line c.in-Err.fault) (sym c.in-Steps.is) c.in-Err.ensures.stopped

pub returns-in-Ok-below_split-clause-ended : goal.returns-in-Ok-below_split-clause-ended
returns-in-Ok-below_split-clause-ended c = subst (λ (e : End). EndsWith c.args.setting.now e c.args.sketch.now c.args.line (Some c.in-Ok-below_split.frame)) (sym c.in-Split.is) (c.in-Ok-below_split.ensures.ended c.args.setting.now)

pub returns-in-Err-below_split-clause-stopped : goal.returns-in-Err-below_split-clause-stopped
returns-in-Err-below_split-clause-stopped c = subst (λ (e : End). EndsNot c.args.setting.now e c.args.sketch.now c.args.line c.in-Err-below_split.fault) (sym c.in-Split.is) (c.in-Err-below_split.ensures.stopped c.args.setting.now)
