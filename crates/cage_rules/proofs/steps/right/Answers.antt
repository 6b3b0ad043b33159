use Rattle.std.proofs.Common.{List, Bool, ap, ◌∙◌}
use Rattle.cage_rules.specs.SetSteps.{right}
use Rattle.cage_rules.proofs.Shifts.{right-bits}
use Rattle.cage_rules.proofs.steps.right.Goals as goal

pub returns : goal.returns
returns c = c.from_bits.ensures.squares ∙ right-bits c.bits.result c.args.files c.requires ∙ ap (λ (l : List Bool). right l c.args.files) c.bits.ensures.squares
