use Rattle.std.proofs.Common.{refl}
use Rattle.sketch_prose.proofs.Strangers.{all-begun, at-number, begun-more, foreign-in}
use Rattle.sketch_prose.proofs.foreigners.first_foreign.Goals as goal

pub returns-in-Some-clause-foreign : goal.returns-in-Some-clause-foreign
returns-in-Some-clause-foreign c =
    foreign-in c.args.odds c.args.sketch.now c.args.set c.loop-figure.figure-index c.figure-item.result c.in-Some.s c.array_of-first.result c.array_of-first.ensures
    (at-number c.args.sketch.now c.figures-figure-items.result.now c.loop-figure.figure-index c.figure-item.result c.figures-figure-items.ensures.value c.loop-figure-test.true c.figure-item.is) c.loop-figure.invariant c.in-Some.ensures.foreign

pub loop-figure-preserved : goal.loop-figure-preserved
loop-figure-preserved c =
    begun-more c.args.odds c.args.sketch.now c.args.set c.loop-figure.figure-index c.figure-item.result c.array_of-first.result c.array_of-first.ensures
    (at-number c.args.sketch.now c.figures-figure-items.result.now c.loop-figure.figure-index c.figure-item.result c.figures-figure-items.ensures.value c.loop-figure-test.true c.figure-item.is) c.loop-figure.invariant (c.in-None.ensures.none refl)

pub returns-clause-some : goal.returns-clause-some
returns-clause-some c = λ bad. absurd (bad (all-begun c.args.odds c.args.sketch.now c.figures-figure-items.result.now c.args.set c.loop-figure.figure-index c.figures-figure-items.ensures.value c.loop-figure-test.false c.loop-figure.invariant))
