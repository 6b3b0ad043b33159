use Rattle.std.proofs.Common.{◌≤◌, length, map, take, ap, sym, ◌∙◌, subst, arith}
use Rattle.figures.specs.Figures.{IsRearranged, Sketch}
use Rattle.sketch_steps.specs.Places.{placed_in}
use Rattle.sketch_steps.proofs.Rearranging.{moved-recounted, recounted-made, stays}
use Rattle.sketch_steps.proofs.places.recounted.Goals as goal

pub returns-clause-value : goal.returns-clause-value
returns-clause-value c =
    let T : Sketch = c.args.sketch.now in
    let past : length T ≤ c.loop-figure.figure-index = subst (λ (S : Sketch). length S ≤ c.loop-figure.figure-index) c.figures-figure-items.ensures.value (omega arith) in
    recounted-made T c.loop-figure.made c.loop-figure.figure-index past (c.loop-figure.invariant.made ∙ ap (λ (S : Sketch). map (placed_in T) (take c.loop-figure.figure-index S)) c.figures-figure-items.ensures.value)

pub returns-clause-rearranged : goal.returns-clause-rearranged
returns-clause-rearranged c = subst (IsRearranged c.args.sketch.now) (sym (returns-clause-value c)) (moved-recounted c.args.sketch.now c.args.sketch.now (stays c.args.sketch.now))
