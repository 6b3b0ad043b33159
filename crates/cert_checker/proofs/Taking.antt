-- The line of a child.
use Rattle.std.proofs.Common.{◌≡◌, ℕ, suc, ◌-◌, ◌<◌, List, [], ◌∷◌, length, map, drop, refl, sym, ap, ◌∙◌, subst, arith}
use Rattle.std.proofs.lemmas.List.{length-map}
use Rattle.std.specs.Prelude.{Option, Some, None, IfSome, slice_get}
use Rattle.std.specs.Option.{option_and_then}
use Rattle.std.specs.List.{Contains}
use Rattle.board_base.specs.declared.unmoves.Unmove.{Unmove}
use Rattle.query_base.specs.Asked.{Asked}
use Rattle.query_base.specs.declared.claims.Claim.{Claim}
use Rattle.unmove_gen.specs.Listed.{unmoves}
use Rattle.cert_text.specs.Lines.{said}
use Rattle.cert_text.specs.NodeLines.{kid_body}
use Rattle.cert_text.specs.Reading.{HasRoom}
use Rattle.cert_text.specs.Due.{Due, kid_step, nodes_due, put_due, step}
use Rattle.cert_text.specs.declared.node_lines.BodyLine.{BodyLine}
use Rattle.cert_text.proofs.Fitting.{kid_fits}
use Rattle.cert_checker.specs.Frames.{Walking, going, sketching, OnFirst, OnKid, OnSaid, OnNext, OnOpen, OnLine, fewer}
use Rattle.cert_checker.specs.Counting.{counts_with}
use Rattle.cert_checker.specs.Framing.{due_of, stopped_by, walking, with_body, IsListed, IsStack}
use Rattle.cert_checker.specs.Sketching.{SketchState}
use Rattle.cert_checker.specs.Stages.{bad, Stepped}
use Rattle.cert_checker.specs.Staging.{IfGood, due_after, taken, walk_after}
use Rattle.cert_checker.specs.Kept.{Frame}
use Rattle.cert_checker.specs.declared.frames.NodeStep.{NodeStep}
use Rattle.cert_checker.specs.declared.frames.NodeStep.TheVariants as comes
use Rattle.cert_checker.proofs.Opening.{due_with, listed_rest, open_stands, stack_with}

onto_kid : (f : Frame) (frames : List Frame) (n : ℕ) (line : List ℕ) (label : Unmove) (body : BodyLine) (after : Walking) → said (kid_body (suc (length frames))) line ≡ Some (label, body) → OnKid f frames n label body after → OnOpen n line (f ∷ frames) after
onto_kid f frames n line label body after says on = subst (λ (o : Option (Unmove × BodyLine)). OnSaid o f frames n after) (sym says) on

pub step_kid : (units d : ℕ) (others : List ℕ) (line : List ℕ) (label : Unmove) (body : BodyLine) → 0 < d → said (kid_body (suc (length others))) line ≡ Some (label, body) → kid_step units (d ∷ others) line ≡ put_due units body ((d - 1) ∷ others)
step_kid units d others line label body some says =
    let one : d ≡ suc (d - 1) = omega arith in
    ap (λ (k : ℕ). kid_step units (k ∷ others) line) one ∙ ap (option_and_then (λ (kid : Unmove × BodyLine). put_due units kid.1 ((d - 1) ∷ others))) says

-- the stage after a line that leaves this due
stage_by : (result : NodeStep) (k : SketchState) (o : Option Due) (w : Walking) (after : List Frame) (n : ℕ) (line : List ℕ) (claim : Claim) (q : Asked) → IfGood result (OnLine w n line (walk_after result k after)) → o ≡ due_after result k (map due_of after) → Stepped o claim q w n line (taken result k claim q after n)
stage_by comes.Bad k o w after n line claim q on due = subst (λ (p : Option Due). Stepped p claim q w n line (bad n)) (sym due) refl
stage_by (comes.Nodes f) k o w after n line claim q on due = subst (λ (p : Option Due). Stepped p claim q w n line (taken (comes.Nodes f) k claim q after n)) (sym due) (walking f after, on, refl)
stage_by (comes.Sketch None) k o w after n line claim q on due = subst (λ (p : Option Due). Stepped p claim q w n line (taken (comes.Sketch None) k claim q after n)) (sym due) (sketching k.sketched after, on, refl)
stage_by (comes.Sketch (Some f)) k o w after n line claim q on due = subst (λ (p : Option Due). Stepped p claim q w n line (taken (comes.Sketch (Some f)) k claim q after n)) (sym due) (stopped_by f, on, refl)

if_good : (result : NodeStep) (P Q : Type 0) → (P → Q) → IfGood result P → IfGood result Q
if_good comes.Bad P Q go p = tt
if_good (comes.Nodes f) P Q go p = go p
if_good (comes.Sketch f) P Q go p = go p

pub good : (result : NodeStep) (P : Type 0) → P → IfGood result P
good comes.Bad P p = tt
good (comes.Nodes f) P p = p
good (comes.Sketch f) P p = p

-- the line is a child's
pub stage_kid : (result : NodeStep) (k : SketchState) (units : ℕ) (f : Frame) (olds frames after : List Frame) (n depth : ℕ) (line : List ℕ) (label : Unmove) (body : BodyLine) (claim : Claim) (q : Asked) → olds ≡ f ∷ frames → 0 < f.due → depth ≡ suc (length frames) → said (kid_body depth) line ≡ Some (label, body)
    → IfGood result (OnKid f frames n label body (walk_after result k after)) → put_due units body ((f.due - 1) ∷ map due_of frames) ≡ due_after result k (map due_of after)
    → Stepped (step (nodes_due units (map due_of olds)) line) claim q (going olds) n line (taken result k claim q after n)
stage_kid result k units f olds frames after n depth line label body claim q first some deep says walk dues =
    let here : said (kid_body (suc (length frames))) line ≡ Some (label, body) = ap (λ (j : ℕ). said (kid_body j) line) (sym deep) ∙ says in
    let there : said (kid_body (suc (length (map due_of frames)))) line ≡ Some (label, body) = ap (λ (j : ℕ). said (kid_body (suc j)) line) (length-map frames due_of) ∙ here in
    let on = if_good result (OnKid f frames n label body (walk_after result k after)) (OnLine (going (f ∷ frames)) n line (walk_after result k after)) (λ kid. subst (λ (w : Walking). OnNext w n line (walk_after result k after)) (sym (open_stands None (f ∷ frames) some)) (onto_kid f frames n line label body (walk_after result k after) here kid)) walk in
    let goes = stage_by result k (kid_step units (f.due ∷ map due_of frames) line) (going (f ∷ frames)) after n line claim q on (step_kid units f.due (map due_of frames) line label body some there ∙ dues) in
    subst (λ (l : List Frame). Stepped (step (nodes_due units (map due_of l)) line) claim q (going l) n line (taken result k claim q after n)) (sym first) goes

-- what a line says has room at its depth
pub kid_room : (depth at : ℕ) (line : List ℕ) (label : Unmove) (body : BodyLine) → depth ≡ at → said (kid_body depth) line ≡ Some (label, body) → HasRoom at body
kid_room depth at line label body deep says =
    subst (λ (d : ℕ). HasRoom d body) deep (subst (λ (o : Option (Unmove × BodyLine)). IfSome o (λ kid. HasRoom depth kid.1)) says (kid_fits depth line))

-- the frames after a child's line
pub walked_stack : (query : Asked) (left new : List Unmove) (d own n size : ℕ) (olds pushed after : List Frame) (body : BodyLine) (q : Asked) → new ≡ drop 1 left → ((u : Unmove) → Contains left u → Contains (unmoves query) u) → length olds ≡ size → size < 255 → pushed ≡ record { query = query; left = new; due = d; line = own } ∷ olds → after ≡ with_body body q pushed n → HasRoom (suc size) body → IsStack olds → IsStack after
walked_stack query left new d own n size olds pushed after body q others listed e small push last room stack =
    let here : Frame = record { query = query; left = new; due = d; line = own } in
    let is-listed : IsListed here = λ u there. listed_rest left query listed u (subst (λ (us : List Unmove). Contains us u) others there) in
    let few : length olds < 255 = omega (arith, e, small) in
    let size-is : suc size ≡ length (here ∷ olds) = ap suc (sym e) in
    subst IsStack (sym (last ∙ ap (λ (l : List Frame). with_body body q l n) push)) (stack_with body q (here ∷ olds) n (subst (λ (k : ℕ). HasRoom k body) size-is room) (λ some. few, is-listed, stack))

-- the frames with the parent's again
parent_again : (top : Frame) (new : List Unmove) (olds pushed : List Frame) → new ≡ drop 1 top.left → pushed ≡ record { query = top.query; left = new; due = top.due - 1; line = top.line } ∷ olds → pushed ≡ fewer top ∷ olds
parent_again top new olds pushed others push = push ∙ ap (λ (us : List Unmove). record { query = top.query; left = us; due = top.due - 1; line = top.line } ∷ olds) others

-- the walk at a child's line, as the functions have it
pub kid_walked : (result : NodeStep) (k : SketchState) (top : Frame) (first : Option Unmove) (new : List Unmove) (olds pushed after : List Frame) (n : ℕ) (label : Unmove) (body : BodyLine) (w : Walking) → first ≡ slice_get top.left 0 → new ≡ drop 1 top.left → pushed ≡ record { query = top.query; left = new; due = top.due - 1; line = top.line } ∷ olds
    → OnFirst first top.query pushed n label body w → IfGood result (w ≡ walk_after result k after) → IfGood result (OnKid top olds n label body (walk_after result k after))
kid_walked result k top first new olds pushed after n label body w is-first others push on walk =
    let all = parent_again top new olds pushed others push in
    let here : OnFirst (slice_get top.left 0) top.query pushed n label body w = subst (λ (o : Option Unmove). OnFirst o top.query pushed n label body w) is-first on in
    let there : OnKid top olds n label body w = subst (λ (l : List Frame). OnFirst (slice_get top.left 0) top.query l n label body w) all here in
    if_good result (w ≡ walk_after result k after) (OnKid top olds n label body (walk_after result k after)) (λ same. subst (OnKid top olds n label body) same there) walk

-- and what is due behind it
pub kid_due : (result : NodeStep) (k : SketchState) (units : ℕ) (top : Frame) (new : List Unmove) (olds pushed after : List Frame) (n : ℕ) (body : BodyLine) (q : Asked) → pushed ≡ record { query = top.query; left = new; due = top.due - 1; line = top.line } ∷ olds → after ≡ with_body body q pushed n
    → ((due : List ℕ) → put_due units body due ≡ due_after result k (counts_with body due)) → put_due units body ((top.due - 1) ∷ map due_of olds) ≡ due_after result k (map due_of after)
kid_due result k units top new olds pushed after n body q push last due =
    let same : counts_with body ((top.due - 1) ∷ map due_of olds) ≡ map due_of after = ap (λ (l : List Frame). counts_with body (map due_of l)) (sym push) ∙ sym (due_with body q pushed n) ∙ ap (map due_of) (sym last) in
    due ((top.due - 1) ∷ map due_of olds) ∙ ap (due_after result k) same

-- the frames behind the root's line
pub root_stack : (result : NodeStep) (body : BodyLine) (q : Asked) (olds after : List Frame) (n : ℕ) → olds ≡ [] → HasRoom 0 body → after ≡ with_body body q olds n → IfGood result (IsStack after)
root_stack result body q olds after n none room last =
    let here : after ≡ with_body body q [] n = last ∙ ap (λ (l : List Frame). with_body body q l n) none in
    good result (IsStack after) (subst IsStack (sym here) (stack_with body q [] n room tt))
