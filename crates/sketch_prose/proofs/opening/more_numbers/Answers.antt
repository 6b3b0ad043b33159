use Rattle.std.proofs.Common.{◌++◌, ◌∙◌, ℕ, List, ap}
use Rattle.std.specs.Prelude.{codes}
use Rattle.std.specs.Fmt.{decimal}
use Rattle.sketch_prose.proofs.opening.more_numbers.Goals as goal

pub returns : goal.returns
returns c = c.in_ok-say.ensures ∙ ap (λ (l : List ℕ). l ++ codes ".") (c.in_ok-push_number.ensures ∙ ap (λ (l : List ℕ). l ++ decimal c.args.number) c.in_ok-own.ensures)
