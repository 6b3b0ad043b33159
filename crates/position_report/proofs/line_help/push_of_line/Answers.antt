use Rattle.std.proofs.Common.{List, ◌++◌, sym, ap, ◌∙◌}
use Rattle.std.specs.Prelude.{Option, codes}
use Rattle.std.proofs.lemmas.Result.{IfOk-equal}
use Rattle.board_base.specs.declared.unmoves.Unmove.{Unmove}
use Rattle.line_claims.specs.declared.claims.LineClaim.{LineClaim}
use Rattle.position_report.specs.LastMoves.{steps_in}
use Rattle.position_report.specs.Proofs.{line_help, line_input}
use Rattle.position_report.proofs.line_help.push_of_line.Goals as goal

pub returns-in-Line : goal.returns-in-Line
returns-in-Line c =
    let o = c.args.out.now.items in
    let depth = c.args.limits.depth in
    let nodes = c.args.limits.nodes in
    let q = c.args.query.now in
    IfOk-equal c.push_input.result _ _ _ c.push_input.ensures
    (ap (λ (l : LineClaim). o ++ line_input (codes "For a proof of the last moves:\nretractor dossier ") depth nodes q l) c.in-Line.is ∙ ap (λ (s : Option (List Unmove)). o ++ line_help depth nodes q s c.args.lone) (sym (ap steps_in c.in-Line.is)))
