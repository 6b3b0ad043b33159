use Rattle.std.proofs.Common.{◌≡◌, ◌<◌, ◌&&◌, Bool, true, refl, ap, sym, ◌∙◌, subst}
use Rattle.std.specs.Prelude.{IsTrue, SomeIff}
use Rattle.figures.specs.Figures.{Figure, Sketch, figure_at}
use Rattle.figures.specs.Steps.{is_step}
use Rattle.board_base.specs.Play.{ahead}
use Rattle.sketch_sets.specs.TrimmedOut.{trimmed_out}
use Rattle.sketch_steps.specs.Places.{recounted}
use Rattle.sketch_steps.proofs.Before.{low-at}
use Rattle.sketch_list.specs.Listed.{Listed, is_sound, sketch_before, step_for}
use Rattle.sketch_walk.proofs.Fitting.{passed-home}
use Rattle.sketch_walk.proofs.Making.{not-first, sketch-made, step-by, step-passing, step-to}
use Rattle.sketch_walk.proofs.before.sound_before.Goals as goal

pub step_for-step-requires-clause-figure : goal.step_for-step-requires-clause-figure
step_for-step-requires-clause-figure c = low-at c.args.sketch.now c.args.listed.now.by c.args.figure.now c.requires.low c.requires.figure

pub figures_before-requires-clause-figure : goal.figures_before-requires-clause-figure
figures_before-requires-clause-figure c = low-at c.args.sketch.now c.args.listed.now.by c.args.figure.now c.requires.low c.requires.figure

pub figures_before-requires-clause-home : goal.figures_before-requires-clause-home
figures_before-requires-clause-home c = λ passed.
    let T : Sketch = c.args.sketch.now in
    let f : Figure = c.args.figure.now in
    let y : Listed = c.args.listed.now in
    let made : is_step c.args.exact.now T (step_for T f y) ≡ true = ap (is_step c.args.exact.now T) (sym c.step_for-step.ensures.value) ∙ sym c.is_step.ensures ∙ c.if-not-is_step.false in
    subst (λ t. ahead f.colour t < 64) (step-to T f y) (passed-home c.args.exact.now T f (step_for T f y) (ap (figure_at T) (step-by T f y) ∙ c.requires.figure) made (step-passing T f y ∙ passed))

pub returns-then-not-is_step : goal.returns-then-not-is_step
returns-then-not-is_step c = not-first _ _ (ap (is_step c.args.exact.now c.args.sketch.now) (sym c.step_for-step.ensures.value) ∙ sym c.is_step.ensures ∙ c.if-not-is_step.true)

pub returns : goal.returns
returns c =
    let T : Sketch = c.args.sketch.now in
    let f : Figure = c.args.figure.now in
    let y : Listed = c.args.listed.now in
    let whole : Sketch = c.figures_before.result in
    let before : trimmed_out (recounted whole) ≡ sketch_before T f y = sketch-made T f y whole (recounted whole) (trimmed_out (recounted whole)) c.figures_before.ensures refl refl in
    let made : is_step c.args.exact.now T (step_for T f y) ≡ true = ap (is_step c.args.exact.now T) (sym c.step_for-step.ensures.value) ∙ sym c.is_step.ensures ∙ c.if-not-is_step.false in
    let left : SomeIff c.sound_left.result (IsTrue (is_sound (sketch_before T f y) f)) (sketch_before T f y) = subst (λ (S : Sketch). SomeIff c.sound_left.result (IsTrue (is_sound S f)) S) before c.sound_left.ensures in
    subst (λ (b : Bool). SomeIff c.sound_left.result (IsTrue (b && is_sound (sketch_before T f y) f)) (sketch_before T f y)) (sym made) left
