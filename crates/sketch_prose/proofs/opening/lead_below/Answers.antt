use Rattle.std.proofs.Common.{◌++◌, ◌∙◌, ℕ, List, ap}
use Rattle.std.specs.Prelude.{codes}
use Rattle.sketch_prose.proofs.opening.lead_below.Goals as goal

pub returns : goal.returns
returns c = c.in_ok-say.ensures ∙ ap (λ (l : List ℕ). l ++ codes " ") c.in_ok-own.ensures
