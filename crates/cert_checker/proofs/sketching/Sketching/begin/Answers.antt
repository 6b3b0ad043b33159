use Rattle.std.proofs.Common.{◌≡◌, ◌∙◌, false, ap, sym, subst}
use Rattle.std.specs.Prelude.{Some}
use Rattle.query_base.specs.Asked.{Asked}
use Rattle.sketch_body.specs.Due.{start}
use Rattle.cert_checker.specs.Sketching.{IsReading, SketchState}
use Rattle.cert_checker.proofs.SketchNodes.{begun_reading, begun_sketched, set_as, state}
use Rattle.cert_checker.proofs.sketching.Sketching.begin.Goals as goal

pub returns-clause-sketched : goal.returns-clause-sketched
returns-clause-sketched c =
    let starts : start c.args.self.now.units c.args.head.now ≡ Some c.self.inside.due = (rw c.if-not-count_from.false at c.count_from.ensures.start) ∙ ap (λ (k : SketchState). Some k.reading) (sym c.self.view_is) in
    let set_ = set_as c.args.query.now c.args.head.now c.query.inside.odds c.query.inside.held c.exact_files.result c.files.result.now c.reset.new.self.setting (ap (λ (p : Asked). p.odds) c.query.view_is) (ap (λ (p : Asked). p.held) c.query.view_is) c.reset.ensures.setting c.exact_files.ensures c.files.ensures.value in
    ap (λ (q : Asked). (state c.self.inside.units c.self.inside.due q c.reset.new.self.setting false c.reset.new.self.opened c.reset.new.self.frames).sketched) c.query.view_is
    ∙ begun_sketched c.args.self.now.units c.self.inside.units c.args.query.now c.args.head.now c.self.inside.due c.reset.new.self.setting c.reset.new.self.opened c.reset.new.self.frames starts set_

pub returns-clause-reading : goal.returns-clause-reading
returns-clause-reading c = λ few.
    let starts : start c.args.self.now.units c.args.head.now ≡ Some c.self.inside.due = (rw c.if-not-count_from.false at c.count_from.ensures.start) ∙ ap (λ (k : SketchState). Some k.reading) (sym c.self.view_is) in
    let set_ = set_as c.args.query.now c.args.head.now c.query.inside.odds c.query.inside.held c.exact_files.result c.files.result.now c.reset.new.self.setting (ap (λ (p : Asked). p.odds) c.query.view_is) (ap (λ (p : Asked). p.held) c.query.view_is) c.reset.ensures.setting c.exact_files.ensures c.files.ensures.value in
    subst (λ (q : Asked). IsReading (state c.self.inside.units c.self.inside.due q c.reset.new.self.setting false c.reset.new.self.opened c.reset.new.self.frames)) (sym c.query.view_is)
    (begun_reading c.args.self.now.units c.self.inside.units c.args.query.now c.args.head.now c.self.inside.due c.reset.new.self.setting c.reset.new.self.opened c.reset.new.self.frames starts set_ few)
