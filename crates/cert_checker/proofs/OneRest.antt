-- From each stage on there is one answer to the lines that follow.
use Rattle.std.proofs.Common.{◌≡◌, ℕ, suc, ◌+◌, ◌-◌, inl, inr, List, [], ◌∷◌, ◌++◌, length, map, refl, sym, ap, ◌∙◌, subst}
use Rattle.std.specs.Prelude.{◌↔◌, Option, Some, None, slice_get}
use Rattle.std.specs.declared.cmp.Ordering.{Ordering}
use Rattle.std.specs.declared.cmp.Ordering.TheVariants.{Less, Equal, Greater}
use Rattle.board_base.specs.Texts.{unmove_order}
use Rattle.board_base.specs.declared.unmoves.Unmove.{Unmove}
use Rattle.past_sketches.specs.Figures.{sketch_of}
use Rattle.sketch_text.specs.Trees.{Line}
use Rattle.sketch_body.specs.Bodies.{Item, of_line, of_prices}
use Rattle.sketch_body.specs.Due.{read_as}
use Rattle.sketch_checker.specs.LineWalk.{Walking as SketchWalking, begun}
use Rattle.sketch_checker.specs.LineWalk as sketches
use Rattle.sketch_checker.specs.Supports.{MayAsk, setting_of}
use Rattle.sketch_checker.specs.Walks.{Frame as SketchFrame, Opened}
use Rattle.sketch_checker.proofs.OneLine.{step-one}
use Rattle.sketch_checker.proofs.SomeLine.{walk-some}
use Rattle.query_base.specs.Asked.{Asked}
use Rattle.query_base.specs.Ancestors.{CoversAt}
use Rattle.query_base.specs.Reach.{Reaches}
use Rattle.query_base.specs.Targets.{target}
use Rattle.query_base.specs.declared.claims.Claim.{Claim}
use Rattle.query_base.proofs.Settled.{array_settled}
use Rattle.unmove_gen.specs.Listed.{unmoves}
use Rattle.unmove_gen.specs.Predecessor.{predecessor}
use Rattle.cert_text.specs.Lines.{cut, said}
use Rattle.cert_text.specs.NodeLines.{kid_body, root_body}
use Rattle.cert_text.specs.Certificate.{Lines}
use Rattle.cert_text.specs.Due.{Due, put_due, step}
use Rattle.cert_text.specs.Heads.{head_step}
use Rattle.cert_text.specs.declared.heads.Head.{Head}
use Rattle.cert_text.specs.declared.heads.Head.TheVariants.{FormatDue, ClaimDue, DemandDue, ClockOrFenDue, FenDue, RootDue}
use Rattle.cert_text.specs.declared.node_lines.BodyLine.{BodyLine}
use Rattle.cert_text.specs.declared.node_lines.BodyLine.TheVariants.{Rule, Back, Expand, Sketch}
use Rattle.cert_checker.specs.Answers.{Answer, Answers}
use Rattle.cert_checker.specs.Reasons.{ReasonSupports}
use Rattle.cert_checker.specs.Walk.{unlisted, unsupported}
use Rattle.cert_checker.specs.Frames.{Sketched, Walking, going, sketching, stopped, as_sketched, first_sketched, go_on, ended, marks_due, Stays, Steps, Opens, OnBody, OnItem, OnLabel, OnFirst, OnNext, OnNodes, OnSaid, OnOpen, OnLine, fewer, query_of_frame}
use Rattle.cert_checker.specs.Stages.{Stage, in_head, nodes, bad, headed, Begun, Rooted, Stepped, OnHead, NextStage, Rest, answer_at}
use Rattle.cert_checker.specs.Kept.{Frame}
use Rattle.cert_checker.specs.declared.refusals.Why.{Why}
use Rattle.cert_checker.specs.declared.refusals.Why.TheVariants as why
use Rattle.cert_checker.specs.Remains.{Checking, Remains, StandsFor}
use Rattle.cert_checker.proofs.OneText.{one_answer}
use Rattle.cert_checker.proofs.AskSettled.{ask_settled}
use Rattle.cert_checker.proofs.ReasonsSettled.{covering_settled, reason_settled}
use Rattle.general_lemmas.proofs.Settling.{Settled}

-- There is one

stays-some : (P : Type 0) (w : Why) (frames : List Frame) (n : ℕ) → Settled P → (after : Walking) × Stays P w frames n after
stays-some P w frames n (inl p) = (going frames, (p, refl))
stays-some P w frames n (inr f) = (stopped n (unsupported w), (f, refl, refl))

opens-some : (A : Type 0) (frames : List Frame) (n : ℕ) → Settled A → (after : Walking) × Opens A frames n after
opens-some A frames n (inl a) = (stopped n (unsupported why.Array), (a, refl, refl))
opens-some A frames n (inr f) = (going frames, (f, refl))

body-some : (body : BodyLine) (q : Asked) (frames : List Frame) (n : ℕ) → (after : Walking) × OnBody body q frames n after
body-some (Rule r) q frames n = stays-some (ReasonSupports q r) why.Rule frames n (reason_settled q r)
body-some (Back k) q frames n = stays-some (CoversAt q (map query_of_frame frames) k) why.Back frames n (covering_settled q (map query_of_frame frames) k)
body-some (Sketch h) q frames n = (sketching (first_sketched q h) frames, refl)
body-some (Expand c) q frames n = opens-some (Reaches [] q) (record { query = q; left = unmoves q; due = c; line = n } ∷ frames) n (array_settled q)

label-some : (o : Ordering) (u : Unmove) (n : ℕ) (Kid : Walking → Type 0) → (after : Walking) × Kid after → (after : Walking) × OnLabel o u n (Kid after) after
label-some Less u n Kid kid = (stopped n (unsupported why.Stray), refl)
label-some Equal u n Kid kid = kid
label-some Greater u n Kid kid = (stopped n (unlisted u), refl)

first-some : (o : Option Unmove) (q : Asked) (frames : List Frame) (n : ℕ) (label : Unmove) (body : BodyLine) → (after : Walking) × OnFirst o q frames n label body after
first-some None q frames n label body = (stopped n (unsupported why.Stray), refl)
first-some (Some u) q frames n label body = label-some (unmove_order label u) u n (OnBody body (predecessor q u) frames n) (body-some body (predecessor q u) frames n)

said-some : (o : Option (Unmove × BodyLine)) (f : Frame) (frames : List Frame) (n : ℕ) → (after : Walking) × OnSaid o f frames n after
said-some None f frames n = (going (f ∷ frames), refl)
said-some (Some kid) f frames n = first-some (slice_get f.left 0) f.query (fewer f ∷ frames) n kid.0 kid.1

open-some : (n : ℕ) (line : List ℕ) (frames : List Frame) → (after : Walking) × OnOpen n line frames after
open-some n line [] = (going [], refl)
open-some n line (f ∷ frames) = said-some (said (kid_body (suc (length frames))) line) f frames n

steps-some : (w : SketchWalking) (s : Sketched) (frames : List Frame) (n : ℕ) (l : Line) → (after : Walking) × Steps w s frames n l after
steps-some w s frames n l =
    let x = walk-some (setting_of s.query s.exact s.prices) (l ∷ []) w n in
    (as_sketched x.1.0 s frames, (x.1.0, x.1.1, refl))

first-node-some : (s : Sketched) (frames : List Frame) (n : ℕ) (l : Line) → Settled (MayAsk s.query s.prices) → (after : Walking) × OnNodes None s frames n l after
first-node-some s frames n l (inl may) =
    let some = steps-some (begun (sketch_of s.query.board)) s frames n l in
    (some.0, inr (may, some.1))
first-node-some s frames n l (inr f) = (stopped n (unsupported why.Rule), inl (f, refl))

nodes-some : (at : Option (Option Opened × List SketchFrame)) (s : Sketched) (frames : List Frame) (n : ℕ) (l : Line) → (after : Walking) × OnNodes at s frames n l after
nodes-some None s frames n l = first-node-some s frames n l (ask_settled s.query s.prices)
nodes-some (Some at) s frames n l = steps-some (sketches.going at.0 at.1) s frames n l

item-some : (o : Option Item) (s : Sketched) (frames : List Frame) (n : ℕ) → (after : Walking) × OnItem o s frames n after
item-some None s frames n = (sketching s frames, refl)
item-some (Some (of_prices p)) s frames n = (sketching (record s { prices = s.prices ++ p ∷ []; wanted = s.wanted - 1 }) frames, refl)
item-some (Some (of_line l)) s frames n = nodes-some s.nodes s frames n l

next-line-some : (w : Walking) (n : ℕ) (line : List ℕ) → (after : Walking) × OnNext w n line after
next-line-some (going frames) n line = open-some n line frames
next-line-some (sketching s frames) n line = item-some (said (read_as (length s.prices + s.wanted) s.wanted (marks_due s.nodes)) line) s frames n
next-line-some (stopped m f) n line = (stopped m f, refl)

line-some : (w : Walking) (n : ℕ) (line : List ℕ) → (after : Walking) × OnLine w n line after
line-some w n line = next-line-some (go_on w ended) n line

begun-some : (o : Option Due) (body : BodyLine) (claim : Claim) (q : Asked) (n : ℕ) → (next : Stage) × Begun o body claim q n next
begun-some None body claim q n = (bad n, refl)
begun-some (Some due) body claim q n =
    let walk = body-some body (target q claim) [] n in
    (nodes claim q walk.0 due, (walk.0, walk.1, refl))

rooted-some : (o : Option BodyLine) (claim : Claim) (q : Asked) (n : ℕ) → (next : Stage) × Rooted o claim q n next
rooted-some None claim q n = (bad n, refl)
rooted-some (Some body) claim q n = begun-some (put_due 0 body []) body claim q n

stepped-some : (o : Option Due) (claim : Claim) (q : Asked) (w : Walking) (n : ℕ) (line : List ℕ) → (next : Stage) × Stepped o claim q w n line next
stepped-some None claim q w n line = (bad n, refl)
stepped-some (Some due) claim q w n line =
    let after = line-some w n line in
    (nodes claim q after.0 due, (after.0, after.1, refl))

head-some : (due : Head) (n : ℕ) (line : List ℕ) → (next : Stage) × OnHead due n line next
head-some FormatDue n line = (headed (head_step FormatDue line) n, refl)
head-some (ClaimDue f) n line = (headed (head_step (ClaimDue f) line) n, refl)
head-some (DemandDue c) n line = (headed (head_step (DemandDue c) line) n, refl)
head-some (ClockOrFenDue c o) n line = (headed (head_step (ClockOrFenDue c o) line) n, refl)
head-some (FenDue c o k) n line = (headed (head_step (FenDue c o k) line) n, refl)
head-some (RootDue claim q) n line = rooted-some (said root_body line) claim q n

next-some : (stage : Stage) (n : ℕ) (line : List ℕ) → (next : Stage) × NextStage stage n line next
next-some (in_head due) n line = head-some due n line
next-some (nodes claim q w due) n line = stepped-some (step due line) claim q w n line
next-some (bad k) n line = (bad k, refl)

pub rest_some : (lines : Lines) (stage : Stage) (n : ℕ) → (a : Answer) × Rest stage n lines a
rest_some [] stage n = (answer_at stage n, refl)
rest_some (line ∷ lines) stage n =
    let next = next-some stage n line in
    let rest = rest_some lines next.0 (n + 1) in
    (rest.0, (next.0, next.1, rest.1))

-- There is no more than one

stays-one : (P : Type 0) (w : Why) (frames : List Frame) (n : ℕ) (a b : Walking) → Stays P w frames n a → Stays P w frames n b → a ≡ b
stays-one P w frames n (going f) (going g) x y = ap going (x.1 ∙ sym y.1)
stays-one P w frames n (going f) (stopped j g) x y = absurd (y.0 x.0)
stays-one P w frames n (going f) (sketching s g) x y = absurd y
stays-one P w frames n (sketching s f) b x y = absurd x
stays-one P w frames n (stopped i f) (sketching s g) x y = absurd y
stays-one P w frames n (stopped i f) (going g) x y = absurd (x.0 y.0)
stays-one P w frames n (stopped i f) (stopped j g) x y = ap (λ (k : ℕ). stopped k f) (x.1 ∙ sym y.1) ∙ ap (stopped j) (x.2 ∙ sym y.2)

opens-one : (A : Type 0) (frames : List Frame) (n : ℕ) (a b : Walking) → Opens A frames n a → Opens A frames n b → a ≡ b
opens-one A frames n (going f) (going g) x y = ap going (x.1 ∙ sym y.1)
opens-one A frames n (going f) (stopped j g) x y = absurd (x.0 y.0)
opens-one A frames n (going f) (sketching s g) x y = absurd y
opens-one A frames n (sketching s f) b x y = absurd x
opens-one A frames n (stopped i f) (sketching s g) x y = absurd y
opens-one A frames n (stopped i f) (going g) x y = absurd (y.0 x.0)
opens-one A frames n (stopped i f) (stopped j g) x y = ap (λ (k : ℕ). stopped k f) (x.1 ∙ sym y.1) ∙ ap (stopped j) (x.2 ∙ sym y.2)

body-one : (body : BodyLine) (q : Asked) (frames : List Frame) (n : ℕ) (a b : Walking) → OnBody body q frames n a → OnBody body q frames n b → a ≡ b
body-one (Rule r) q frames n a b x y = stays-one (ReasonSupports q r) why.Rule frames n a b x y
body-one (Back k) q frames n a b x y = stays-one (CoversAt q (map query_of_frame frames) k) why.Back frames n a b x y
body-one (Sketch h) q frames n a b x y = x ∙ sym y
body-one (Expand c) q frames n a b x y = opens-one (Reaches [] q) (record { query = q; left = unmoves q; due = c; line = n } ∷ frames) n a b x y

label-one : (o : Ordering) (u : Unmove) (n : ℕ) (a b : Walking) (A B : Type 0) → (A → B → a ≡ b) → OnLabel o u n A a → OnLabel o u n B b → a ≡ b
label-one Less u n a b A B kid x y = x ∙ sym y
label-one Equal u n a b A B kid x y = kid x y
label-one Greater u n a b A B kid x y = x ∙ sym y

first-one : (o : Option Unmove) (q : Asked) (frames : List Frame) (n : ℕ) (label : Unmove) (body : BodyLine) (a b : Walking) → OnFirst o q frames n label body a → OnFirst o q frames n label body b → a ≡ b
first-one None q frames n label body a b x y = x ∙ sym y
first-one (Some u) q frames n label body a b x y =
    label-one (unmove_order label u) u n a b (OnBody body (predecessor q u) frames n a) (OnBody body (predecessor q u) frames n b) (body-one body (predecessor q u) frames n a b) x y

said-one : (o : Option (Unmove × BodyLine)) (f : Frame) (frames : List Frame) (n : ℕ) (a b : Walking) → OnSaid o f frames n a → OnSaid o f frames n b → a ≡ b
said-one None f frames n a b x y = x ∙ sym y
said-one (Some kid) f frames n a b x y = first-one (slice_get f.left 0) f.query (fewer f ∷ frames) n kid.0 kid.1 a b x y

open-one : (n : ℕ) (line : List ℕ) (frames : List Frame) (a b : Walking) → OnOpen n line frames a → OnOpen n line frames b → a ≡ b
open-one n line [] a b x y = x ∙ sym y
open-one n line (f ∷ frames) a b x y = said-one (said (kid_body (suc (length frames))) line) f frames n a b x y

steps-one : (w : SketchWalking) (s : Sketched) (frames : List Frame) (n : ℕ) (l : Line) (a b : Walking) → Steps w s frames n l a → Steps w s frames n l b → a ≡ b
steps-one w s frames n l a b (u, on, e) (v, on2, f) =
    e ∙ ap (λ (k : SketchWalking). as_sketched k s frames) (step-one (setting_of s.query s.exact s.prices) w n l u v on on2) ∙ sym f

nodes-one : (at : Option (Option Opened × List SketchFrame)) (s : Sketched) (frames : List Frame) (n : ℕ) (l : Line) (a b : Walking) → OnNodes at s frames n l a → OnNodes at s frames n l b → a ≡ b
nodes-one None s frames n l a b (inl x) (inl y) = x.1 ∙ sym y.1
nodes-one None s frames n l a b (inl x) (inr y) = absurd (x.0 y.0)
nodes-one None s frames n l a b (inr x) (inl y) = absurd (y.0 x.0)
nodes-one None s frames n l a b (inr x) (inr y) = steps-one (begun (sketch_of s.query.board)) s frames n l a b x.1 y.1
nodes-one (Some at) s frames n l a b x y = steps-one (sketches.going at.0 at.1) s frames n l a b x y

item-one : (o : Option Item) (s : Sketched) (frames : List Frame) (n : ℕ) (a b : Walking) → OnItem o s frames n a → OnItem o s frames n b → a ≡ b
item-one None s frames n a b x y = x ∙ sym y
item-one (Some (of_prices p)) s frames n a b x y = x ∙ sym y
item-one (Some (of_line l)) s frames n a b x y = nodes-one s.nodes s frames n l a b x y

next-line-one : (w : Walking) (n : ℕ) (line : List ℕ) (a b : Walking) → OnNext w n line a → OnNext w n line b → a ≡ b
next-line-one (going frames) n line a b x y = open-one n line frames a b x y
next-line-one (sketching s frames) n line a b x y = item-one (said (read_as (length s.prices + s.wanted) s.wanted (marks_due s.nodes)) line) s frames n a b x y
next-line-one (stopped m f) n line a b x y = x ∙ sym y

line-one : (w : Walking) (n : ℕ) (line : List ℕ) (a b : Walking) → OnLine w n line a → OnLine w n line b → a ≡ b
line-one w n line a b x y = next-line-one (go_on w ended) n line a b x y

begun-one : (o : Option Due) (body : BodyLine) (claim : Claim) (q : Asked) (n : ℕ) (s t : Stage) → Begun o body claim q n s → Begun o body claim q n t → s ≡ t
begun-one None body claim q n s t x y = x ∙ sym y
begun-one (Some due) body claim q n s t (w, on, e) (v, on2, f) =
    e ∙ ap (λ (k : Walking). nodes claim q k due) (body-one body (target q claim) [] n w v on on2) ∙ sym f

rooted-one : (o : Option BodyLine) (claim : Claim) (q : Asked) (n : ℕ) (s t : Stage) → Rooted o claim q n s → Rooted o claim q n t → s ≡ t
rooted-one None claim q n s t x y = x ∙ sym y
rooted-one (Some body) claim q n s t x y = begun-one (put_due 0 body []) body claim q n s t x y

stepped-one : (o : Option Due) (claim : Claim) (q : Asked) (w : Walking) (n : ℕ) (line : List ℕ) (s t : Stage) → Stepped o claim q w n line s → Stepped o claim q w n line t → s ≡ t
stepped-one None claim q w n line s t x y = x ∙ sym y
stepped-one (Some due) claim q w n line s t (a, on, e) (b, on2, f) = e ∙ ap (λ (k : Walking). nodes claim q k due) (line-one w n line a b on on2) ∙ sym f

head-one : (due : Head) (n : ℕ) (line : List ℕ) (s t : Stage) → OnHead due n line s → OnHead due n line t → s ≡ t
head-one FormatDue n line s t x y = x ∙ sym y
head-one (ClaimDue f) n line s t x y = x ∙ sym y
head-one (DemandDue c) n line s t x y = x ∙ sym y
head-one (ClockOrFenDue c o) n line s t x y = x ∙ sym y
head-one (FenDue c o k) n line s t x y = x ∙ sym y
head-one (RootDue claim q) n line s t x y = rooted-one (said root_body line) claim q n s t x y

next-one : (stage : Stage) (n : ℕ) (line : List ℕ) (s t : Stage) → NextStage stage n line s → NextStage stage n line t → s ≡ t
next-one (in_head due) n line s t x y = head-one due n line s t x y
next-one (nodes claim q w due) n line s t x y = stepped-one (step due line) claim q w n line s t x y
next-one (bad k) n line s t x y = x ∙ sym y

pub rest_one : (lines : Lines) (stage : Stage) (n : ℕ) (a b : Answer) → Rest stage n lines a → Rest stage n lines b → a ≡ b
rest_one [] stage n a b x y = x ∙ sym y
rest_one (line ∷ lines) stage n a b (s, on, rest) (t, on2, rest2) =
    rest_one lines t (n + 1) a b (subst (λ (k : Stage). Rest k (n + 1) lines a) (next-one stage n line s t on on2) rest) rest2

-- Of a check of bytes

-- the true answer is the one that remains
pub remains_true : (k : Checking) (bytes others : List ℕ) (a : Answer) → StandsFor k bytes → Remains k others a ↔ Answers (cut (bytes ++ others)) a
remains_true k bytes others a stands =
    let some = rest_some (cut (k.gathered ++ others)) k.stage k.number in
    (stands.answers others a, λ answers. subst (Remains k others) (one_answer (cut (bytes ++ others)) some.0 a (stands.answers others some.0 some.1) answers) some.1)
