use Rattle.std.proofs.Common.{◌≡◌, true, ap, sym, ◌∙◌, subst}
use Rattle.std.proofs.lemmas.Bool.{both_ways}
use Rattle.std.specs.Prelude.{IsTrue, None, Option, Some, SomeIff}
use Rattle.figures.specs.Figures.{IsRearranged, Sketch, figure_at}
use Rattle.figures.specs.Steps.{Step, taken_back}
use Rattle.sketch_steps.specs.Places.{before_step, can_go_back, fits_before, recounted}
use Rattle.sketch_steps.proofs.Before.{back-by, back-none, before-by, before-rearranged, fits-low, low-at}
use Rattle.sketch_steps.proofs.taken.taken_back.Goals as goal

pub returns-in_err-mover-clause-value : goal.returns-in_err-mover-clause-value
returns-in_err-mover-clause-value c =
    let none : figure_at c.args.sketch.now c.args.step.now.by ≡ None = ap (λ (x : Step). figure_at c.args.sketch.now x.by) (sym c.step.view_is) ∙ sym c.get.ensures ∙ c.in_err-mover.was in
    subst (λ (o : Option Sketch). SomeIff o (IsTrue (can_go_back c.args.sketch.now c.args.step.now)) (before_step c.args.sketch.now c.args.step.now)) (sym c.from_residual.ensures) (λ h. both_ways _ (back-none c.args.sketch.now c.args.step.now none) h)

pub returns-then-not-fits-clause-value : goal.returns-then-not-fits-clause-value
returns-then-not-fits-clause-value c =
    let found : figure_at c.args.sketch.now c.args.step.now.by ≡ Some c.in_ok-mover.mover = ap (λ (x : Step). figure_at c.args.sketch.now x.by) (sym c.step.view_is) ∙ sym c.get.ensures ∙ c.in_ok-mover.was in
    λ h. both_ways _ (back-by c.args.sketch.now c.args.step.now c.in_ok-mover.mover found ∙ sym c.fits.ensures ∙ c.if-not-fits.true) h

pub others_first-before-requires-clause-place : goal.others_first-before-requires-clause-place
others_first-before-requires-clause-place c =
    let found : figure_at c.args.sketch.now c.args.step.now.by ≡ Some c.in_ok-mover.mover = ap (λ (x : Step). figure_at c.args.sketch.now x.by) (sym c.step.view_is) ∙ sym c.get.ensures ∙ c.in_ok-mover.was in
    let fits : fits_before c.args.sketch.now c.in_ok-mover.mover c.args.step.now ≡ true = sym c.fits.ensures ∙ c.if-not-fits.false in
    low-at c.args.sketch.now c.args.step.now.by c.in_ok-mover.mover (fits-low c.args.sketch.now c.in_ok-mover.mover c.args.step.now fits) found

pub returns-clause-value : goal.returns-clause-value
returns-clause-value c =
    let found : figure_at c.args.sketch.now c.args.step.now.by ≡ Some c.in_ok-mover.mover = ap (λ (x : Step). figure_at c.args.sketch.now x.by) (sym c.step.view_is) ∙ sym c.get.ensures ∙ c.in_ok-mover.was in
    (back-by c.args.sketch.now c.args.step.now c.in_ok-mover.mover found ∙ sym c.fits.ensures ∙ c.if-not-fits.false, c.recounted.ensures.value ∙ ap recounted c.others_first-before.ensures ∙ sym (before-by c.args.sketch.now c.args.step.now c.in_ok-mover.mover found))

pub returns-clause-rearranged : goal.returns-clause-rearranged
returns-clause-rearranged c =
    let found : figure_at c.args.sketch.now c.args.step.now.by ≡ Some c.in_ok-mover.mover = ap (λ (x : Step). figure_at c.args.sketch.now x.by) (sym c.step.view_is) ∙ sym c.get.ensures ∙ c.in_ok-mover.was in
    subst (IsRearranged (taken_back c.args.sketch.now c.args.step.now)) (sym (c.recounted.ensures.value ∙ ap recounted c.others_first-before.ensures)) (before-rearranged c.args.sketch.now c.args.step.now c.in_ok-mover.mover found)
