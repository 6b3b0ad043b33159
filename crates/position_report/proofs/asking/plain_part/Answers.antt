use Rattle.std.proofs.Common.{List, ℕ, ◌++◌, ap, ◌∙◌}
use Rattle.position_report.specs.Asking.{plain_ask}
use Rattle.position_report.proofs.asking.plain_part.Goals as goal

pub returns : goal.returns
returns c =
    c.in_ok-push_plain_ask.ensures
    ∙ ap (λ (l : List ℕ). l ++ plain_ask c.args.query.now c.args.limits.depth c.args.limits.nodes c.args.plain) c.new-part.ensures.items
