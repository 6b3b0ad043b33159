use Rattle.std.proofs.Common.{◌<◌}
use Rattle.std.specs.Prelude.{IfSome}
use Rattle.sketch_costs.proofs.classes.neediest_class.Given as goal

abbrev pub invariant-loop-class : goal.invariant-loop-class
invariant-loop-class l = IfSome l.best (λ class. class < 16)
