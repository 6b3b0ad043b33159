use Rattle.std.proofs.Common.{◌≡◌, ◌<◌, ◌+◌, ◌∙◌, ◌++◌, ◌∷◌, [], ℕ, List, get_or, length, take, ap, sym, subst, arith}
use Rattle.std.proofs.lemmas.List.{take_all, take_more}
use Rattle.arrayvec.specs.ArrayVec.{ArrayVec}
use Rattle.figures.specs.Figures.{Figure, Sketch}
use Rattle.sketch_grounds.specs.Pins.{ArePins}
use Rattle.sketch_grounds.specs.declared.frozen.Pin.{Pin}
use Rattle.sketch_grounds.proofs.Freezing.{pins-more, pins-none, pins-same}
use Rattle.sketch_grounds.proofs.frozen.pins_of.Goals as goal
use Rattle.sketch_grounds.proofs.frozen.pins_of.Goals.{in-Some, in-None}

pub loop-figure-init : goal.loop-figure-init
loop-figure-init c = record { few = omega (arith, ap (λ (l : List Pin). length l) c.new-pins.ensures); are = pins-none c.args.held c.new-pins.result.items c.new-pins.ensures }

pub loop-figure-preserved : goal.loop-figure-preserved
loop-figure-preserved c =
    let S : Sketch = c.args.sketch.now in
    let f : Figure = c.figure-item.result in
    let i : ℕ = c.loop-figure.figure-index in
    let value : c.figures-figure-items.result.now ≡ S = c.figures-figure-items.ensures.value in
    let low : i < length S = omega (arith, c.loop-figure-test.true, ap (λ (l : Sketch). length l) value) in
    let more : take (i + 1) S ≡ take i S ++ f ∷ [] = take_more S i f low ∙ ap (λ (x : Figure). take i S ++ x ∷ []) (ap (λ (l : Sketch). get_or l i f) (sym value) ∙ sym c.figure-item.is) in
    elim c.match-fixed_square.branch [
      | in-Some w ↦
          let made : c.match-fixed_square.pins.items ≡ c.loop-figure.pins.items ++ w.pin_of.result ∷ [] = ap (λ (p : ArrayVec Pin). p.items) w.pins-is ∙ w.push.ensures.items in
          record {
            few = omega (arith, w.push.ensures.len, ap (λ (p : ArrayVec Pin). length p.items) w.pins-is, c.loop-figure.invariant.few);
            are = subst (λ (l : Sketch). ArePins c.args.held l c.match-fixed_square.pins.items) (sym more)
                (subst (ArePins c.args.held (take i S ++ f ∷ [])) (sym made) (pins-more c.args.held (take i S) f c.loop-figure.pins.items w.pin_of.result c.fixed_square.ensures.size w.pin_of.ensures c.loop-figure.invariant.are));
          }
      | in-None w ↦
          record {
            few = omega (arith, ap (λ (p : ArrayVec Pin). length p.items) w.pins-is, c.loop-figure.invariant.few);
            are = subst (λ (l : Sketch). ArePins c.args.held l c.match-fixed_square.pins.items) (sym more)
                (subst (ArePins c.args.held (take i S ++ f ∷ [])) (sym (ap (λ (p : ArrayVec Pin). p.items) w.pins-is)) (pins-same c.args.held (take i S) f c.loop-figure.pins.items c.fixed_square.ensures.size w.in-None.ensures.square c.loop-figure.invariant.are));
          }
    ]

pub returns : goal.returns
returns c =
    let value : c.figures-figure-items.result.now ≡ c.args.sketch.now = c.figures-figure-items.ensures.value in
    subst (λ (l : Sketch). ArePins c.args.held l c.loop-figure.pins.items) (take_all c.loop-figure.figure-index c.args.sketch.now (omega (arith, c.loop-figure-test.false, ap (λ (l : Sketch). length l) value))) c.loop-figure.invariant.are
