use Rattle.std.proofs.Common.{length, ap, sym, ◌∙◌, subst, arith}
use Rattle.sketch_sets.specs.Remade.{AreWhole, set_of}
use Rattle.sketch_sets.proofs.Closing.{whole-all, whole-more}
use Rattle.sketch_sets.proofs.remade.are_whole.Goals as goal

pub loop-figure-preserved : goal.loop-figure-preserved
loop-figure-preserved c = whole-more c.figures-figure-items.result.now c.loop-figure.figure-index c.figure-item.result c.loop-figure-test.true c.figure-item.is (sym (ap length (ap set_of c.figure.view_is)) ∙ c.is_whole.ensures) c.loop-figure.invariant

pub returns : goal.returns
returns c = subst AreWhole c.figures-figure-items.ensures.value (whole-all c.figures-figure-items.result.now c.loop-figure.figure-index (omega arith) c.loop-figure.invariant)
