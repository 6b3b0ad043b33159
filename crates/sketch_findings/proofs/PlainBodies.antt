-- Bodies of one node without exact files, prices and marks.
use Rattle.std.proofs.Common.{ℕ, ◌≡◌, ◌≤◌, inl, inr, List, [], map, ap, subst, sym, ◌∙◌, true, arith}
use Rattle.capture_prices.specs.Prices.{PriceList}
use Rattle.sketch_text.specs.Trees.{Line}
use Rattle.sketch_text.specs.declared.nodes.End.{End}
use Rattle.sketch_text.specs.declared.nodes.End.TheVariants.{Void, Steps}
use Rattle.sketch_body.specs.Bodies.{Body, units_of}
use Rattle.sketch_body.specs.Whole.{is_body}
use Rattle.cert_checker.specs.Sketches.{files_of}
use Rattle.sketch_body.specs.Seen.{line_of}
use Rattle.sketch_search.specs.Plain.{IsOneNode, IsPlainNode, no_files}
use Rattle.sketch_search.specs.FoundSketch.{FoundSketch}
use Rattle.sketch_findings.specs.Bodies.{IsGatheredFrom, IsPlainBody, one_body}

one-of : (b : Body) (f : FoundSketch) (end : End) → IsOneNode end f → b.files ≡ [] → IsGatheredFrom b f → b ≡ one_body end
one-of b f end one files g =
    let prices : b.prices ≡ [] = g.prices ∙ one.prices in
    let lines : b.lines ≡ (one_body end).lines = g.lines ∙ ap (map line_of) one.lines in
    ap (λ (fs : List ℕ). record { files = fs; prices = b.prices; lines = b.lines }) files
    ∙ ap (λ (ps : List PriceList). record { files = []; prices = ps; lines = b.lines }) prices
    ∙ ap (λ (ls : List Line). record { files = []; prices = []; lines = ls }) lines

pub plain-body : (b : Body) (f : FoundSketch) → IsPlainNode f → b.files ≡ [] → IsGatheredFrom b f → IsPlainBody b
plain-body b f (inl one) files g = inl (one-of b f Void one files g)
plain-body b f (inr one) files g = inr (one-of b f (Steps 0) one files g)

-- no file of such a proof is exact
pub no-exact : (f : FoundSketch) → IsPlainNode f → f.exact ≡ no_files
no-exact f (inl one) = one.exact
no-exact f (inr one) = one.exact

-- such a body has no file either, has a text, and few units
pub plain-files : (b : Body) (f : FoundSketch) → IsPlainNode f → IsPlainBody b → files_of b.files ≡ f.exact
plain-files b f plain (inl e) = ap (λ (x : Body). files_of x.files) e ∙ sym (no-exact f plain)
plain-files b f plain (inr e) = ap (λ (x : Body). files_of x.files) e ∙ sym (no-exact f plain)

pub plain-text : (b : Body) → IsPlainBody b → is_body b ≡ true
plain-text b (inl e) = ap is_body e
plain-text b (inr e) = ap is_body e

pub plain-units : (b : Body) → IsPlainBody b → units_of b ≤ 33
plain-units b (inl e) = subst (λ (x : Body). units_of x ≤ 33) (sym e) (omega arith)
plain-units b (inr e) = subst (λ (x : Body). units_of x ≤ 33) (sym e) (omega arith)
