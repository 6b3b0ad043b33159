use Rattle.std.proofs.Common.{List, Bool, ap, ◌∙◌}
use Rattle.cage_rules.specs.SetSteps.{up}
use Rattle.cage_rules.proofs.Shifts.{up-bits}
use Rattle.cage_rules.proofs.steps.up.Goals as goal

pub returns : goal.returns
returns c = c.from_bits.ensures.squares ∙ up-bits c.bits.result c.args.ranks c.requires ∙ ap (λ (l : List Bool). up l c.args.ranks) c.bits.ensures.squares
