-- What was found supports the query, as the body of a node.
use Rattle.std.proofs.Common.{Bool, List, sym, subst, ◌∙◌}
use Rattle.std.specs.Prelude.{IfOk, IfSome, MatchOption, None, Option, Result, Ok, Err, Some}
use Rattle.capture_prices.specs.Prices.{PriceList}
use Rattle.query_base.specs.Asked.{Asked}
use Rattle.past_sketches.specs.Figures.{sketch_of}
use Rattle.sketch_text.specs.declared.labels.Label.TheVariants.{Now}
use Rattle.sketch_body.specs.Bodies.{Body}
use Rattle.cert_checker.proofs.SketchWalked.{prices-known}
use Rattle.cert_checker.specs.Sketches.{IsSketchOf, files_of}
use Rattle.sketch_search.specs.Found.{IsProofOf}
use Rattle.sketch_search.specs.Proofs.{Holds}
use Rattle.sketch_search.specs.Roots.{IsRoot}
use Rattle.sketch_search.specs.FoundSketch.{FoundSketch}
use Rattle.sketch_findings.specs.Bodies.{IsBodyOf}

pub supporting : (b : Body) (q : Asked) (f : FoundSketch) → IsBodyOf b f → IsProofOf q f → IsRoot q.odds q.board → IsSketchOf b q
supporting b q f is proof root =
    let of_files = subst (λ (exact : List Bool). Holds proof.tree (record { odds = q.odds; held = q.held; exact = exact; prices = f.prices.items }) Now (sketch_of q.board)) (sym is.files) proof.holds in
    let holds = subst (λ (prices : List PriceList). Holds proof.tree (record { odds = q.odds; held = q.held; exact = files_of b.files; prices = prices }) Now (sketch_of q.board)) (sym is.gathered.prices) of_files in
    (proof.tree, proof.written ∙ sym is.gathered.lines, record { asked = record { root = root; known = prices-known b is.text }; holds = holds })

-- what one fact says of what was given, if something was, another says too
pub if-found : {A E : Type 0} (R : Result (Option A) E) (P Q : A → Type 0) → ((x : A) → P x → Q x) → IfOk R (λ r. IfSome r P) → IfOk R (λ r. IfSome r Q)
if-found {A} {E} (Ok (Some x)) P Q further h = further x h
if-found {A} {E} (Ok None) P Q further h = tt
if-found {A} {E} (Err e) P Q further h = tt

-- the same of what is always given under a condition
pub if-always : {A E : Type 0} (R : Result (Option A) E) (H : Type 0) (P Q : A → Type 0) → (H → IfOk R (λ r. MatchOption r ⊥ P)) → ((x : A) → P x → Q x) → IfOk R (λ r. H → MatchOption r ⊥ Q)
if-always {A} {E} (Ok (Some x)) H P Q h further = λ cause. further x (h cause)
if-always {A} {E} (Ok None) H P Q h further = λ cause. h cause
if-always {A} {E} (Err e) H P Q h further = tt
