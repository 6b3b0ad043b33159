use Rattle.std.proofs.Common.{◌+◌, List, Bool, ap, sym, ◌∙◌, subst, arith}
use Rattle.figures.specs.Figures.{Sketch}
use Rattle.sketch_sets.specs.Clashes.{has_two}
use Rattle.sketch_sets.proofs.Clashing.{Seen, seen-end, seen-start, seen-twice, seen-with, seen-without}
use Rattle.sketch_sets.proofs.checks.has_two.Goals as goal
use Rattle.sketch_sets.proofs.checks.has_two.Goals.{in-Some+else-has, in_default}

pub loop-figure-init : goal.loop-figure-init
loop-figure-init c = seen-start _ _ c.from_bits-seen.ensures.squares

pub loop-figure-preserved : goal.loop-figure-preserved
loop-figure-preserved c = elim c.match-fixed_square.branch [
  | in-Some+else-has w ↦ subst (λ (l : List Bool). Seen c.figures-figure-items.result.now (c.loop-figure.figure-index + 1) l) (sym (w.seen-is ∙ w.with-seen.ensures)) (seen-with c.figures-figure-items.result.now c.loop-figure.figure-index c.figure-item.result c.loop-figure-test.true (sym c.figure-item.is) c.loop-figure.seen _ c.fixed_square.ensures.size w.in-Some.ensures.square (sym w.has.ensures.member ∙ w.if-has.false) c.loop-figure.invariant)
  | in_default w ↦ subst (λ (l : List Bool). Seen c.figures-figure-items.result.now (c.loop-figure.figure-index + 1) l) (sym w.seen-is) (seen-without c.figures-figure-items.result.now c.loop-figure.figure-index c.figure-item.result c.loop-figure-test.true (sym c.figure-item.is) c.loop-figure.seen w.in_default.ensures.square c.loop-figure.invariant)
]

pub returns-then-has : goal.returns-then-has
returns-then-has c = seen-twice c.figures-figure-items.result.now c.loop-figure.figure-index c.figure-item.result c.loop-figure-test.true (sym c.figure-item.is) c.loop-figure.seen _ c.fixed_square.ensures.size c.in-Some.ensures.square (sym c.has.ensures.member ∙ c.if-has.true) c.loop-figure.invariant ∙ ap (λ (T : Sketch). has_two T) c.figures-figure-items.ensures.value

pub returns : goal.returns
returns c = seen-end c.figures-figure-items.result.now c.loop-figure.figure-index c.loop-figure.seen (omega arith) c.loop-figure.invariant ∙ ap (λ (T : Sketch). has_two T) c.figures-figure-items.ensures.value
