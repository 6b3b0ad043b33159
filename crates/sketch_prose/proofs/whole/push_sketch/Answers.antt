use Rattle.std.proofs.Common.{◌∙◌, ◌≤◌, ◌∷◌, Bool, List, ap, length, subst, sym}
use Rattle.std.proofs.lemmas.Result.{IfOk-weaker}
use Rattle.capture_prices.specs.Prices.{PriceList}
use Rattle.figures.specs.Figures.{sketch_of}
use Rattle.query_base.specs.Asked.{Asked}
use Rattle.sketch_checker.proofs.Going.{size-low}
use Rattle.sketch_checker.specs.Supports.{setting_of}
use Rattle.sketch_prose.proofs.Starting.{root-fit, sketch-told}
use Rattle.sketch_prose.proofs.whole.push_sketch.Goals as goal
use Rattle.sketch_prose.specs.Levels.{Level, first_level}
use Rattle.sketch_prose.specs.Telling.{exact_files}

pub unreachable-requires : goal.unreachable-requires
unreachable-requires c =
    c.in_default.ensures
    (subst (λ (q : Asked). length (sketch_of q.board) ≤ 32) (sym c.query.view_is) (size-low c.args.query.now.odds (sketch_of c.args.query.now.board) (root-fit c.args.query.now c.args.body.now c.requires).able.room))

pub returns : goal.returns
returns c =
    let exact : List Bool = c.exact_files.result in
    let prices : List PriceList = c.prices.result.now in
    IfOk-weaker c.push_all.result _ _
    (λ _ told. sketch-told c.args.query.now c.args.body.now _ c.in-Some.diagram _ _ c.args.out.now.items c.push_all.new.out.items c.requires
    (ap (λ (q : Asked). setting_of q exact prices) c.query.view_is ∙ ap (λ (e : List Bool). setting_of c.args.query.now e prices) (c.exact_files.ensures ∙ ap exact_files c.files.ensures) ∙ ap (λ (p : List PriceList). setting_of c.args.query.now (exact_files c.args.body.now.files) p) c.prices.ensures)
    (c.in-Some.ensures.1 ∙ ap (λ (q : Asked). sketch_of q.board) c.query.view_is)
    (c.in_ok-push.ensures
    ∙ ap (λ (v : Level). v ∷ c.new-levels.result) (c.in_ok-first_level.ensures ∙ ap first_level c.copied.ensures)
    ∙ ap (λ (vs : List Level). first_level c.in-Some.diagram ∷ vs) c.new-levels.ensures)
    c.lines.ensures told)
    c.push_all.ensures
