use Rattle.std.proofs.Common.{List, ℕ, ◌++◌, ap, ◌∙◌}
use Rattle.position_report.specs.Asking.{last_ask}
use Rattle.position_report.proofs.asking.last_part.Goals as goal

pub returns : goal.returns
returns c =
    c.in_ok-push_last_ask.ensures
    ∙ ap (λ (l : List ℕ). l ++ last_ask c.args.query.now c.args.limits.depth c.args.limits.nodes) c.new-part.ensures.items
