use Rattle.std.proofs.Common.{List, ℕ, ◌++◌, ap, ◌∙◌}
use Rattle.position_report.specs.LastMoves.{proved_steps}
use Rattle.position_report.specs.Proofs.{line_help}
use Rattle.position_report.proofs.Lasting.{lone-text}
use Rattle.position_report.proofs.reporting.line_part.Goals as goal

pub push_line_help-requires-clause-text : goal.push_line_help-requires-clause-text
push_line_help-requires-clause-text c = c.requires.texts.steps

pub push_line_help-requires-clause-lone : goal.push_line_help-requires-clause-lone
push_line_help-requires-clause-lone c =
    lone-text c.args.query.now c.args.found.now.left _ c.lone_step-lone.ensures c.requires.texts.left.texts

pub returns : goal.returns
returns c = (
  c.lone_step-lone.result,
  c.lone_step-lone.ensures,
  c.in_ok-push_line_help.ensures
      ∙ ap (λ (l : List ℕ). l ++ line_help c.args.limits.depth c.args.limits.nodes c.args.query.now (proved_steps c.args.found.now.steps) c.lone_step-lone.result) c.new-part.ensures.items,
)
