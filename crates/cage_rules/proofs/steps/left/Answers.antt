use Rattle.std.proofs.Common.{List, Bool, ap, ◌∙◌}
use Rattle.cage_rules.specs.SetSteps.{left}
use Rattle.cage_rules.proofs.Shifts.{left-bits}
use Rattle.cage_rules.proofs.steps.left.Goals as goal

pub returns : goal.returns
returns c = c.from_bits.ensures.squares ∙ left-bits c.bits.result c.args.files c.requires ∙ ap (λ (l : List Bool). left l c.args.files) c.bits.ensures.squares
