use Rattle.std.proofs.Common.{List, ℕ, ◌++◌, ap, ◌∙◌}
use Rattle.ledger_told.specs.Line.{Line}
use Rattle.diagram_study.specs.declared.held.HeldFound.{HeldFound}
use Rattle.position_report.specs.Held.{held_prose}
use Rattle.position_report.proofs.reporting.held_part.Goals as goal

pub returns : goal.returns
returns c =
    c.in_ok-push_each_held.ensures
    ∙ ap (λ (l : List ℕ). l ++ held_prose c.args.query.now c.as_slice-known.result.now c.as_slice.result.now) c.new-part.ensures.items
    ∙ ap (λ (known : List Line). held_prose c.args.query.now known c.as_slice.result.now) c.as_slice-known.ensures.value
    ∙ ap (λ (l : List HeldFound). held_prose c.args.query.now c.args.found.now.ledger.items l) c.as_slice.ensures.value
