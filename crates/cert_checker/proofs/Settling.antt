-- Lines that were taken, and frames that were taken off after them.
use Rattle.std.proofs.Common.{◌≡◌, ℕ, ◌+◌, List, [], ◌∷◌, map, reverse, refl, sym, ap, ◌∙◌, subst}
use Rattle.std.specs.Prelude.{Option, Some, None}
use Rattle.query_base.specs.Asked.{Asked}
use Rattle.query_base.specs.Targets.{target}
use Rattle.query_base.specs.declared.claims.Claim.{Claim}
use Rattle.cert_text.specs.Lines.{said}
use Rattle.cert_text.specs.NodeLines.{root_body}
use Rattle.cert_text.specs.Certificate.{Lines}
use Rattle.cert_text.specs.Due.{Due, nodes_due, put_due}
use Rattle.cert_text.specs.declared.node_lines.BodyLine.{BodyLine}
use Rattle.cert_checker.specs.Answers.{Answer}
use Rattle.cert_checker.specs.Counting.{counts_with}
use Rattle.cert_checker.specs.Frames.{Walking, sketching, go_on, ended, OnBody}
use Rattle.cert_checker.specs.Framing.{behind, popped, due_of, stopped_by, walking, with_body}
use Rattle.cert_checker.specs.Sketching.{SketchState}
use Rattle.cert_checker.specs.Stages.{Stage, bad, nodes, Begun, Rooted, Rest}
use Rattle.cert_checker.specs.Staging.{IfGood, due_after, rooting, taken, walk_after}
use Rattle.cert_checker.specs.Kept.{Frame}
use Rattle.cert_checker.specs.declared.frames.FirstFault.{FirstFault}
use Rattle.cert_checker.specs.declared.frames.NodeStep.{NodeStep}
use Rattle.cert_checker.specs.declared.frames.NodeStep.TheVariants as comes
use Rattle.cert_checker.proofs.Opening.{rest_settled, due_with}

settled : (claim : Claim) (q : Asked) (units : ℕ) (f result : Option FirstFault) (mid after : List Frame) (n : ℕ) (lines : Lines) (a : Answer) → walking result after ≡ go_on (walking f mid) ended → map due_of after ≡ popped (map due_of mid) → Rest (nodes claim q (walking result after) (nodes_due units (map due_of after))) n lines a → Rest (nodes claim q (walking f mid) (nodes_due units (map due_of mid))) n lines a
settled claim q units f result mid after n lines a walk dues rest =
    rest_settled lines claim q (walking f mid) units (map due_of mid) n a
    (subst (λ (w : Walking). Rest (nodes claim q w (nodes_due units (popped (map due_of mid)))) n lines a) walk (subst (λ (d : List ℕ). Rest (nodes claim q (walking result after) (nodes_due units d)) n lines a) dues rest))

-- the step after a node's line, where the frames with no child due were taken off
pub settled_step : (claim : Claim) (q : Asked) (units : ℕ) (f result : Option FirstFault) (mid after : List Frame) (stage : Stage) (n : ℕ) (lines : Lines) (a : Answer) → walking result after ≡ go_on (walking f mid) ended → map due_of after ≡ popped (map due_of mid) → stage ≡ nodes claim q (walking result after) (nodes_due units (map due_of after)) → Rest stage n lines a → Rest (nodes claim q (walking f mid) (nodes_due units (map due_of mid))) n lines a
settled_step claim q units f result mid after stage n lines a walk dues is rest =
    settled claim q units f result mid after n lines a walk dues (subst (λ (s : Stage). Rest s n lines a) is rest)

-- a node's walk and what is due behind its line, by what a function answers
begun_by : (result : NodeStep) (k : SketchState) (o : Option Due) (body : BodyLine) (claim : Claim) (q : Asked) (after : List Frame) (n : ℕ) → IfGood result (OnBody body (target q claim) [] n (walk_after result k after)) → o ≡ due_after result k (map due_of after) → Begun o body claim q n (taken result k claim q after n)
begun_by comes.Bad k o body claim q after n on due = subst (λ (p : Option Due). Begun p body claim q n (bad n)) (sym due) refl
begun_by (comes.Nodes f) k o body claim q after n on due = subst (λ (p : Option Due). Begun p body claim q n (taken (comes.Nodes f) k claim q after n)) (sym due) (walking f after, on, refl)
begun_by (comes.Sketch None) k o body claim q after n on due = subst (λ (p : Option Due). Begun p body claim q n (taken (comes.Sketch None) k claim q after n)) (sym due) (sketching k.sketched after, on, refl)
begun_by (comes.Sketch (Some f)) k o body claim q after n on due = subst (λ (p : Option Due). Begun p body claim q n (taken (comes.Sketch (Some f)) k claim q after n)) (sym due) (stopped_by f, on, refl)

on_root : (result : NodeStep) (P : Walking → Type 0) (v w : Walking) → P v → IfGood result (v ≡ w) → IfGood result (P w)
on_root comes.Bad P v w p same = tt
on_root (comes.Nodes f) P v w p same = subst P same p
on_root (comes.Sketch f) P v w p same = subst P same p

-- the root's line
pub root_rest : (result : NodeStep) (k : SketchState) (units : ℕ) (claim : Claim) (q aim : Asked) (body : BodyLine) (fault : Option FirstFault) (seen olds pushed : List Frame) (n : ℕ) (line : List ℕ) (lines : Lines) (a : Answer) → units ≡ 0 → said root_body line ≡ Some body → aim ≡ target q claim → seen ≡ [] → olds ≡ [] → OnBody body aim (reverse seen) n (behind fault body aim (reverse seen) n) → pushed ≡ with_body body aim (reverse olds) n
    → ((due : List ℕ) → put_due units body due ≡ due_after result k (counts_with body due)) → IfGood result (behind fault body aim (reverse olds) n ≡ walk_after result k pushed) → Rest (taken result k claim q pushed n) (n + 1) lines a → Rest (rooting claim q) n (line ∷ lines) a
root_rest result k units claim q aim body fault seen olds pushed n line lines a none says target-is none-seen none-there on push due walk rest =
    let first : pushed ≡ with_body body aim [] n = push ∙ ap (λ (l : List Frame). with_body body aim (reverse l) n) none-there in
    let on-none : OnBody body aim [] n (behind fault body aim [] n) = subst (λ (l : List Frame). OnBody body aim (reverse l) n (behind fault body aim (reverse l) n)) none-seen on in
    let on-target : OnBody body (target q claim) [] n (behind fault body aim [] n) = subst (λ (p : Asked). OnBody body p [] n (behind fault body aim [] n)) target-is on-none in
    let walks = subst (λ (l : List Frame). IfGood result (behind fault body aim (reverse l) n ≡ walk_after result k pushed)) none-there walk in
    let goes = on_root result (λ w. OnBody body (target q claim) [] n w) (behind fault body aim [] n) (walk_after result k pushed) on-target walks in
    let dues : put_due 0 body [] ≡ due_after result k (map due_of pushed) = ap (λ (u : ℕ). put_due u body []) (sym none) ∙ due [] ∙ ap (due_after result k) (sym (ap (map due_of) first ∙ due_with body aim [] n)) in (
      taken result k claim q pushed n,
      subst (λ (o : Option BodyLine). Rooted o claim q n (taken result k claim q pushed n)) (sym says) (begun_by result k (put_due 0 body []) body claim q pushed n goes dues),
      rest,
    )
