use Rattle.std.proofs.Common.{◌≡◌, ◌==◌, subst}
use Rattle.figures.specs.Figures.{Figure}
use Rattle.sketch_sets.specs.Clashes.{has_no_square}
use Rattle.sketch_sets.proofs.Clashing.{nowhere-bits}
use Rattle.sketch_sets.proofs.checks.has_no_square.Goals as goal

pub returns : goal.returns
returns c = subst (λ (f : Figure). (c.bits.result == 0) ≡ has_no_square f) c.figure.view_is (nowhere-bits (record { colour = c.figure.inside.colour; kinds = c.figure.inside.kinds; squares = c.figure.inside.squares; marked = c.figure.inside.marked; place = c.figure.inside.place }) c.bits.result c.bits.ensures.number c.bits.ensures.squares)
