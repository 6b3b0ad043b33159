use Rattle.std.proofs.Common.{◌≡◌, ℕ, ◌+◌, List, length, sym, ap, ◌∙◌, subst, arith}
use Rattle.std.proofs.lemmas.Bool.{both_ways}
use Rattle.std.proofs.lemmas.List.{length-map}
use Rattle.sketch_body.specs.Seen.{line_of}
use Rattle.query_base.specs.Asked.{Asked}
use Rattle.capture_prices.specs.Prices.{PriceList}
use Rattle.past_sketches.specs.Figures.{sketch_of}
use Rattle.sketch_checker.specs.LineWalk.{begun}
use Rattle.sketch_checker.specs.Roots.{IsRoot}
use Rattle.cert_text.specs.Tree.{sketch}
use Rattle.cert_checker.specs.Walk.{Walks, fault_at, unsupported}
use Rattle.cert_checker.specs.declared.refusals.Why.TheVariants as why
use Rattle.cert_checker.proofs.SketchWalked.{begun-due, ended-walks, few-men, none-asked, same-walk, set-up, stopped-walks}
use Rattle.cert_checker.proofs.sketch_walking.check_sketch.Goals as goal

pub returns-then-not-is_root-clause-walk : goal.returns-then-not-is_root-clause-walk
returns-then-not-is_root-clause-walk c = λ ancestors.
    let no_root = λ (root : IsRoot c.args.query.now.odds c.args.query.now.board).
    both_ways c.is_root.result c.if-not-is_root.true (c.is_root.ensures.root.1 (subst (λ (p : Asked). IsRoot p.odds p.board) (sym c.query.view_is) root)) in
    subst (λ (k : ℕ). Walks (sketch c.args.body.now) c.args.query.now ancestors c.args.line (fault_at k (unsupported why.Rule))) (ap (λ (l : List PriceList). c.args.line + 1 + length l) (sym c.prices-prices.ensures))
    (none-asked c.args.body.now c.args.query.now ancestors c.args.line c.requires.body no_root)

pub unreachable-requires : goal.unreachable-requires
unreachable-requires c = c.in_default.ensures (few-men c.query.inside.odds c.query.inside.board (c.is_root.ensures.root.0 c.if-not-is_root.false))

pub take_all_lines-requires-clause-due : goal.take_all_lines-requires-clause-due
take_all_lines-requires-clause-due c = begun-due c.args.body.now c.in-Some.root _ _ _ c.requires.body c.begin.ensures.first c.lines.ensures

pub returns-in-Ok-clause-walk : goal.returns-in-Ok-clause-walk
returns-in-Ok-clause-walk c = λ ancestors.
    let root = subst (λ (p : Asked). IsRoot p.odds p.board) c.query.view_is (c.is_root.ensures.root.0 c.if-not-is_root.false) in
    let setting = set-up c.args.query.now c.args.body.now c.query.inside.odds c.query.inside.held c.exact_files.result c.files.result.now c.prices-prices.result.now c.reset.new.self.setting c.add_all_prices.new.walk.setting c.begin.new.self.setting (ap (λ (p : Asked). p.odds) c.query.view_is) (ap (λ (p : Asked). p.held) c.query.view_is) c.exact_files.ensures c.files.ensures c.prices-prices.ensures c.reset.ensures.setting c.add_all_prices.ensures.setting c.begin.ensures.setting in
    let start = c.begin.ensures.first ∙ ap begun (c.in-Some.ensures.1 ∙ ap (λ (p : Asked). sketch_of p.board) c.query.view_is) in
    let place = ap (λ (l : List PriceList). c.args.line + 1 + length l) c.prices-prices.ensures in
    let lines = length-map c.lines.result.now line_of in
    let next : c.in-Ok.next ≡ c.args.line + 1 + length c.args.body.now.prices + length c.args.body.now.lines = omega (arith, c.in-Ok.ensures.next, ap length c.prices-prices.ensures, ap length c.lines.ensures, lines) in
    ended-walks c.args.body.now c.args.query.now ancestors c.args.line c.requires.body root c.in-Ok.next next (same-walk _ _ _ _ _ _ _ _ _ setting start place c.lines.ensures c.in-Ok.ensures.walk)

pub returns-in-Err-clause-walk : goal.returns-in-Err-clause-walk
returns-in-Err-clause-walk c = λ ancestors.
    let root = subst (λ (p : Asked). IsRoot p.odds p.board) c.query.view_is (c.is_root.ensures.root.0 c.if-not-is_root.false) in
    let setting = set-up c.args.query.now c.args.body.now c.query.inside.odds c.query.inside.held c.exact_files.result c.files.result.now c.prices-prices.result.now c.reset.new.self.setting c.add_all_prices.new.walk.setting c.begin.new.self.setting (ap (λ (p : Asked). p.odds) c.query.view_is) (ap (λ (p : Asked). p.held) c.query.view_is) c.exact_files.ensures c.files.ensures c.prices-prices.ensures c.reset.ensures.setting c.add_all_prices.ensures.setting c.begin.ensures.setting in
    let start = c.begin.ensures.first ∙ ap begun (c.in-Some.ensures.1 ∙ ap (λ (p : Asked). sketch_of p.board) c.query.view_is) in
    let place = ap (λ (l : List PriceList). c.args.line + 1 + length l) c.prices-prices.ensures in
    let fault = c.in-Err.ensures.walk in
    stopped-walks c.args.body.now c.args.query.now ancestors c.args.line c.requires.body root c.in-Err.fault.line fault.0 c.in-Err.fault.why fault.1 (same-walk _ _ _ _ _ _ _ _ _ setting start place c.lines.ensures fault.2)
