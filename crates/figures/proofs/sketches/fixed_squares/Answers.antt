use Rattle.std.proofs.Common.{◌+◌, List, Bool, ap, sym, ◌∙◌, subst, arith}
use Rattle.past_sketches.specs.Figures.{Sketch, fixed_squares}
use Rattle.figures.proofs.Singles.{Fixed, fixed-end, fixed-start, fixed-with, fixed-without}
use Rattle.figures.proofs.sketches.fixed_squares.Goals as goal
use Rattle.figures.proofs.sketches.fixed_squares.Goals.{in-Some, in_default}

pub loop-figure-init : goal.loop-figure-init
loop-figure-init c = fixed-start _ _ c.from_bits-fixed.ensures.squares

pub loop-figure-preserved : goal.loop-figure-preserved
loop-figure-preserved c = elim c.match-fixed_square.branch [
  | in-Some w ↦ subst (λ (l : List Bool). Fixed c.figures-figure-items.result.now (c.loop-figure.figure-index + 1) l) (sym (w.fixed-is ∙ w.with-fixed.ensures)) (fixed-with c.figures-figure-items.result.now c.loop-figure.figure-index c.loop-figure.fixed c.figure-item.result _ c.loop-figure-test.true (sym c.figure-item.is) c.fixed_square.ensures.size w.in-Some.ensures.square c.loop-figure.invariant)
  | in_default w ↦ subst (λ (l : List Bool). Fixed c.figures-figure-items.result.now (c.loop-figure.figure-index + 1) l) (sym w.fixed-is) (fixed-without c.figures-figure-items.result.now c.loop-figure.figure-index c.loop-figure.fixed c.figure-item.result c.loop-figure-test.true (sym c.figure-item.is) w.in_default.ensures.square c.loop-figure.invariant)
]

pub returns : goal.returns
returns c = fixed-end c.figures-figure-items.result.now c.loop-figure.figure-index c.loop-figure.fixed (omega arith) c.loop-figure.invariant ∙ ap (λ (T : Sketch). fixed_squares T) c.figures-figure-items.ensures.value
