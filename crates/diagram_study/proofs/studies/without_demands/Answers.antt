use Rattle.std.proofs.Common.{ap, ◌∙◌, None}
use Rattle.board_base.specs.Rights.{Rights}
use Rattle.query_base.specs.Asked.{Asked}
use Rattle.diagram_study.specs.Studies.{without_demands}
use Rattle.diagram_study.proofs.Castlings.{holds-none}
use Rattle.diagram_study.proofs.studies.without_demands.Goals as goal

pub returns : goal.returns
returns c =
    ap (λ (h : Rights). let q : Asked = record { board = c.query.inside.board; turn = c.query.inside.turn; odds = c.query.inside.odds; held = h; only = None; barred = None; clock = None } in q) (holds-none _ c.none.ensures)
    ∙ ap (λ (q : Asked). without_demands q) c.query.view_is
