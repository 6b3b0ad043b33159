use Rattle.std.proofs.Common.{◌≡◌, ◌≤◌, ◌∙◌, List, length, map, sym, ap, arith, true}
use Rattle.std.specs.List.{list_all}
use Rattle.capture_prices.specs.Prices.{are_prices}
use Rattle.sketch_text.specs.Heads.{are_files}
use Rattle.sketch_text.specs.Trees.{Line}
use Rattle.sketch_body.specs.Bodies.{Body}
use Rattle.sketch_body.specs.Seen.{line_of}
use Rattle.sketch_body.proofs.Taking.{priced_none, whole_taken}
use Rattle.sketch_body.proofs.bodies.SketchBody.has_text.Goals as goal

pub returns-then-not-are_all_priced : goal.returns-then-not-are_all_priced
returns-then-not-are_all_priced c =
    let prices = c.as_slice-prices.ensures.value ∙ ap (λ (b : Body). b.prices) c.self.view_is in
    priced_none c.args.self.now (ap (list_all are_prices) (sym prices) ∙ sym c.are_all_priced.ensures ∙ c.if-not-are_all_priced.true)

pub returns : goal.returns
returns c =
    let prices = c.as_slice-prices.ensures.value ∙ ap (λ (b : Body). b.prices) c.self.view_is in
    let files = c.as_slice.ensures.value ∙ ap (λ (b : Body). b.files) c.self.view_is in
    let lines : map line_of c.as_slice-2.result.now ≡ c.args.self.now.lines = ap (map line_of) c.as_slice-2.ensures.value ∙ ap (λ (b : Body). b.lines) c.self.view_is in
    let few : length c.args.self.now.prices ≤ 64 = omega (arith, ap length prices, c.if-prices-gt64.false) in
    whole_taken c.args.self.now _ c.behind_prices.result.due c.as_slice-2.result.now c.takes_all.result few (ap (are_files 0) (sym files) ∙ sym c.are_files.ensures ∙ c.if-not-are_files.false)
    (ap (list_all are_prices) (sym prices) ∙ sym c.are_all_priced.ensures ∙ c.if-not-are_all_priced.false) c.takes_all.ensures c.behind_prices.ensures (ap length prices) lines
