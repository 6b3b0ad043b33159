use Rattle.std.proofs.Common.{List, Bool, ap, ◌∙◌, arith}
use Rattle.cage_rules.specs.SetSteps.{down}
use Rattle.cage_rules.proofs.Shifts.{down-bits}
use Rattle.cage_rules.proofs.steps.down.Goals as goal

pub returns : goal.returns
returns c = c.from_bits.ensures.squares ∙ down-bits c.bits.result c.args.ranks (omega arith) ∙ ap (λ (l : List Bool). down l c.args.ranks) c.bits.ensures.squares
