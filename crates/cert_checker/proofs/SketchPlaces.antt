-- A line of a sketch that is due may come where the walk stands, and the walk goes on to stand where the rest is due.
use Rattle.std.proofs.Common.{◌≡◌, ℕ, zero, suc, ◌-◌, ◌<◌, ◌&&◌, Bool, true, false, not, inl, inr, List, [], ◌∷◌, length, map, cond, nat_lt, refl, sym, ap, ◌∙◌, subst, arith}
use Rattle.std.proofs.lemmas.Bool.{and_left, and_parts, and_right, le-ltb, ltb-true}
use Rattle.std.proofs.lemmas.List.{length-map}
use Rattle.std.specs.Prelude.{Option, Some, None}
use Rattle.sketch_text.specs.Trees.{Line, of_marks, of_node}
use Rattle.sketch_text.specs.declared.nodes.End.{End}
use Rattle.sketch_text.specs.declared.nodes.End.TheVariants.{Void, Closed, Steps, Split}
use Rattle.sketch_text.specs.declared.nodes.SketchNode.{SketchNode}
use Rattle.past_sketches.specs.Figures.{Sketch}
use Rattle.sketch_body.specs.Bodies.{of_line}
use Rattle.sketch_body.specs.Due.{Due, after, after_node, announced, fits_depth, fits_label, if_any, is_done, is_over, next, settled}
use Rattle.sketch_checker.specs.Proofs.{Setting}
use Rattle.sketch_checker.specs.DueNodes.{Due as DueNode, first_due}
use Rattle.sketch_checker.specs.LineWalk.{OnEnd, OnLine, OnNode, OnOpened, Walking, end_at, end_due, ended, going}
use Rattle.sketch_checker.specs.Placed.{announced_by, may_come}
use Rattle.sketch_checker.specs.Steering.{IsOpen}
use Rattle.sketch_checker.specs.Walks.{Frame, Opened}
use Rattle.cert_checker.specs.SketchLines.{IsGoing, StandsAt, announced_of, marks_of}

-- FRAMES

-- these are the frames at which the walk goes on, if it does
record AreLeft (o : Option Opened) (gs : List Frame) (nodes : List ℕ) : Type 0 where
  none : o ≡ None
  open_ : IsOpen gs
  nodes_are : settled nodes ≡ map (λ f. f.announced) gs

settled-open : (fs : List Frame) → IsOpen fs → settled (map (λ f. f.announced) fs) ≡ map (λ f. f.announced) fs
settled-open [] open_ = refl
settled-open (f ∷ fs) open_ = by-number f.announced open_
  where
    by-number : (n : ℕ) → 0 < n → settled (n ∷ map (λ f. f.announced) fs) ≡ n ∷ map (λ f. f.announced) fs
    by-number zero low = absurd (omega arith)
    by-number (suc n) low = refl

-- below a node to which no more nodes come none is left
left-due : (ds : List DueNode) (top : ℕ) (later : Walking) (o : Option Opened) (gs : List Frame) (nodes : List ℕ) → (going o gs ≡ later → AreLeft o gs nodes) → going o gs ≡ end_due ds top later → AreLeft o gs (zero ∷ nodes)
left-due [] top later o gs nodes on e = let is = on e in record { none = is.none; open_ = is.open_; nodes_are = is.nodes_are }
left-due (d ∷ ds) top later o gs nodes on e = absurd cc

left-at : (n : ℕ) (f : Frame) (fs : List Frame) (later : Walking) (o : Option Opened) (gs : List Frame) → n ≡ f.announced → (going o gs ≡ later → AreLeft o gs (map (λ f. f.announced) fs)) → going o gs ≡ end_at n f fs later → AreLeft o gs (n ∷ map (λ f. f.announced) fs)
left-at zero f fs later o gs number on e = left-due f.due f.line later o gs (map (λ f. f.announced) fs) on e
left-at (suc n) f fs later o gs number on e =
    let none : o ≡ None = cc in
    let all : gs ≡ f ∷ fs = cc in
    let some : 0 < f.announced = omega arith in
    record { none = none; open_ = subst IsOpen (sym all) some; nodes_are = ap (λ (k : ℕ). k ∷ map (λ f. f.announced) fs) number ∙ ap (λ (l : List Frame). map (λ f. f.announced) l) (sym all) }

left-ended : (fs : List Frame) (o : Option Opened) (gs : List Frame) → going o gs ≡ ended fs → AreLeft o gs (map (λ f. f.announced) fs)
left-ended [] o gs e =
    let none : o ≡ None = cc in
    let nothing : gs ≡ [] = cc in
    record { none = none; open_ = subst IsOpen (sym nothing) tt; nodes_are = ap (λ (l : List Frame). map (λ f. f.announced) l) (sym nothing) }
left-ended (f ∷ fs) o gs e = left-at f.announced f fs (ended fs) o gs refl (λ h. left-ended fs o gs h) e

-- LINES

-- the walk goes on so, behind a node with this end
left-end : (e : End) (g : Setting) (S : Sketch) (top : ℕ) (fs : List Frame) (o : Option Opened) (gs : List Frame) → OnEnd e g S top fs (going o gs) → AreLeft o gs (announced_by e ∷ map (λ f. f.announced) fs)
left-end Void g S top fs o gs (inl x) = let e = x.1 in absurd cc
left-end Void g S top fs o gs (inr x) = let is = left-ended fs o gs x.1 in record { none = is.none; open_ = is.open_; nodes_are = is.nodes_are }
left-end (Closed k) g S top fs o gs (inl x) = let e = x.1 in absurd cc
left-end (Closed k) g S top fs o gs (inr x) = let is = left-ended fs o gs x.1 in record { none = is.none; open_ = is.open_; nodes_are = is.nodes_are }
left-end (Steps m) g S top fs o gs (inl x) = let e = x.1 in absurd cc
left-end (Steps m) g S top fs o gs (inr x) = left-ended (_ ∷ fs) o gs x.2
left-end (Split s) g S top fs o gs (inl x) = let e = x.1 in absurd cc
left-end (Split s) g S top fs o gs (inr x) = left-ended (_ ∷ fs) o gs x.2

same-number : (e : End) → announced e ≡ announced_by e
same-number Void = refl
same-number (Closed k) = refl
same-number (Steps m) = refl
same-number (Split s) = refl

-- where all is left, the walk stands so
stands-left : (P : ℕ) (o : Option Opened) (gs : List Frame) (nodes : List ℕ) → AreLeft o gs nodes → StandsAt (record { prices = P; wanted = 0; marks = 0; nodes = settled nodes }) o gs
stands-left P None gs nodes is = record { going = is.open_; wanted = refl; marks = refl; nodes = is.nodes_are ∙ sym (settled-open gs is.open_) }
stands-left P (Some o) gs nodes is = let e = is.none in absurd cc

-- behind a node's line, or one of its marks
stands-opened : (c P : ℕ) (g : Setting) (o : Opened) (fs : List Frame) (p : Option Opened) (gs : List Frame) → c ≡ o.marks → OnOpened c g o fs (going p gs) → StandsAt (record { prices = P; wanted = 0; marks = c; nodes = settled (announced_by o.end ∷ map (λ f. f.announced) fs) }) p gs
stands-opened zero P g o fs p gs many on = stands-left P p gs (announced_by o.end ∷ map (λ f. f.announced) fs) (left-end o.end g o.sketch o.line fs p gs on)
stands-opened (suc c) P g o fs p gs many on =
    let one : p ≡ Some o = cc in
    let two : gs ≡ fs = cc in
    let Q : Option Opened → List Frame → Type 0 = StandsAt (record { prices = P; wanted = 0; marks = suc c; nodes = settled (announced_by o.end ∷ map (λ f. f.announced) fs) }) in
    subst (λ (x : Option Opened). Q x gs) (sym one) (subst (Q (Some o)) (sym two) (record { going = omega arith; wanted = refl; marks = many; nodes = refl }))

-- before its first line
pub stands-first : (P : ℕ) (S : Sketch) → StandsAt (record { prices = P; wanted = 0; marks = 0; nodes = 1 ∷ [] }) None (record { line = 0; announced = 1; due = first_due S ∷ [] } ∷ [])
stands-first P S = record { going = omega arith; wanted = refl; marks = refl; nodes = refl }

-- WHAT IS DUE

-- what is due next, where the walk stands so
next-here : (d e : Due) (o : Option Opened) (fs : List Frame) (l : Line) → StandsAt d o fs → next d (of_line l) ≡ Some e → after d.prices 0 (marks_of o) (settled (announced_of o fs)) (of_line l) ≡ Some e
next-here d e o fs l s on =
    sym (ap (λ (w : ℕ). after d.prices w d.marks d.nodes (of_line l)) s.wanted ∙ ap (λ (m : ℕ). after d.prices 0 m d.nodes (of_line l)) s.marks ∙ ap (λ (ns : List ℕ). after d.prices 0 (marks_of o) ns (of_line l)) s.nodes) ∙ on

no-node : (P c : ℕ) (nodes : List ℕ) (x : SketchNode) (e : Due) → 0 < c → after P 0 c nodes (of_line (of_node x)) ≡ Some e → ⊥
no-node P zero nodes x e some on = omega arith
no-node P (suc c) nodes x e some on = cc

cond-some : (b : Bool) (d e : Due) → cond b (Some d) None ≡ Some e → (b ≡ true) × (d ≡ e)
cond-some true d e on = (refl, let same : d ≡ e = cc in same)
cond-some false d e on = absurd cc

-- not too deep
room-below : (n k : ℕ) → if_any n (nat_lt k 64) ≡ true → not (nat_lt 63 k && nat_lt 0 n) ≡ true
room-below zero k e = ap not (and_right (nat_lt 63 k) false refl)
room-below (suc n) k e = let low : k < 64 = ltb-true k 64 e in ap not (and_left (nat_lt 63 k) (nat_lt 0 (suc n)) (le-ltb 63 k (omega arith)))

open-here : (P : ℕ) (fs : List Frame) (x : SketchNode) (e : Due) → IsOpen fs → after P 0 0 (settled (map (λ f. f.announced) fs)) (of_line (of_node x)) ≡ Some e → after_node P (map (λ f. f.announced) fs) x ≡ Some e
open-here P fs x e open_ on = ap (λ (ns : List ℕ). after_node P ns x) (sym (settled-open fs open_)) ∙ on

node-comes : (P : ℕ) (fs : List Frame) (x : SketchNode) (e : Due) → after_node P (map (λ f. f.announced) fs) x ≡ Some e → may_come None fs (of_node x) ≡ true
node-comes P [] x e on = absurd cc
node-comes P (f ∷ fs) x e on = by-number f.announced on
  where
    by-number : (n : ℕ) → after_node P (n ∷ map (λ f. f.announced) fs) x ≡ Some e → not (nat_lt 63 (length fs) && nat_lt 0 (announced_by x.end)) ≡ true
    by-number zero on_ = absurd cc
    by-number (suc n) on_ =
        let fits = (cond-some (fits_depth P (length (map (λ f. f.announced) fs)) x) _ e on_).0 in
        let rest = (and_parts (fits_label (length (map (λ f. f.announced) fs)) x.label) _ fits).1 in
        let low : if_any (announced x.end) (nat_lt (length (map (λ f. f.announced) fs)) 64) ≡ true = (and_parts (if_any (announced x.end) (nat_lt (length (map (λ f. f.announced) fs)) 64)) (if_any x.marks (nat_lt 0 P)) rest).0 in
        let size : length (map (λ (f : Frame). f.announced) fs) ≡ length fs = length-map fs (λ (f : Frame). f.announced) in
        room-below (announced_by x.end) (length fs) (ap (λ (k : ℕ). if_any k (nat_lt (length fs) 64)) (sym (same-number x.end)) ∙ ap (λ (k : ℕ). if_any (announced x.end) (nat_lt k 64)) (sym size) ∙ low)

comes-by : (P : ℕ) (o : Option Opened) (fs : List Frame) (l : Line) (e : Due) → IsGoing o fs → after P 0 (marks_of o) (settled (announced_of o fs)) (of_line l) ≡ Some e → may_come o fs l ≡ true
comes-by P (Some o) fs (of_marks m) e go on = refl
comes-by P (Some o) fs (of_node x) e go on = absurd (no-node P o.marks (settled (announced_of (Some o) fs)) x e go on)
comes-by P None fs (of_marks m) e go on = absurd cc
comes-by P None fs (of_node x) e go on = node-comes P fs x e (open-here P fs x e go on)

-- a line that is due may come
pub due-comes : (d e : Due) (o : Option Opened) (fs : List Frame) (l : Line) → StandsAt d o fs → next d (of_line l) ≡ Some e → may_come o fs l ≡ true
due-comes d e o fs l s on = comes-by d.prices o fs l e s.going (next-here d e o fs l s on)

-- behind a line of marks
marks-next : (c P : ℕ) (g : Setting) (o : Opened) (S : Sketch) (fs : List Frame) (l : Line) (e : Due) (p : Option Opened) (gs : List Frame) → c ≡ o.marks → 0 < c → after P 0 c (settled (announced_of (Some o) fs)) (of_line l) ≡ Some e → may_come (Some o) fs l ≡ true
    → OnOpened (o.marks - 1) g (record { line = o.line; marks = o.marks - 1; end = o.end; sketch = S }) fs (going p gs) → StandsAt e p gs
marks-next c P g o S fs (of_node x) e p gs many some on comes opens = absurd cc
marks-next zero P g o S fs (of_marks m) e p gs many some on comes opens = absurd (omega arith)
marks-next (suc c) P g o S fs (of_marks m) e p gs many some on comes opens =
    let less : o.marks - 1 ≡ c = omega arith in
    let stands = stands-opened (o.marks - 1) P g (record { line = o.line; marks = o.marks - 1; end = o.end; sketch = S }) fs p gs refl opens in
    let here = subst (λ (k : ℕ). StandsAt (record { prices = P; wanted = 0; marks = k; nodes = settled (announced_of (Some o) fs) }) p gs) less stands in
    let is : record { prices = P; wanted = 0; marks = c; nodes = settled (announced_of (Some o) fs) } ≡ e = cc in
    subst (λ (d : Due). StandsAt d p gs) is here

-- behind a node's line
node-next : (k P : ℕ) (g : Setting) (f : Frame) (ds : List DueNode) (S : Sketch) (fs : List Frame) (n : ℕ) (x : SketchNode) (e : Due) (p : Option Opened) (gs : List Frame) → k ≡ f.announced → after_node P (k ∷ map (λ f. f.announced) fs) x ≡ Some e
    → OnOpened x.marks g (record { line = n; marks = x.marks; end = x.end; sketch = S }) (record { line = f.line; announced = f.announced - 1; due = ds } ∷ fs) (going p gs) → StandsAt e p gs
node-next zero P g f ds S fs n x e p gs number on opens = absurd cc
node-next (suc k) P g f ds S fs n x e p gs number on opens =
    let less : f.announced - 1 ≡ k = omega arith in
    let stands = stands-opened x.marks P g (record { line = n; marks = x.marks; end = x.end; sketch = S }) (record { line = f.line; announced = f.announced - 1; due = ds } ∷ fs) p gs refl opens in
    let fewer = subst (λ (j : ℕ). StandsAt (record { prices = P; wanted = 0; marks = x.marks; nodes = settled (announced_by x.end ∷ j ∷ map (λ f. f.announced) fs) }) p gs) less stands in
    let same = subst (λ (j : ℕ). StandsAt (record { prices = P; wanted = 0; marks = x.marks; nodes = settled (j ∷ k ∷ map (λ f. f.announced) fs) }) p gs) (sym (same-number x.end)) fewer in
    subst (λ (d : Due). StandsAt d p gs) (cond-some (fits_depth P (length (map (λ f. f.announced) fs)) x) _ e on).1 same

at-node : (ds : List DueNode) (P : ℕ) (g : Setting) (f : Frame) (fs : List Frame) (n : ℕ) (x : SketchNode) (e : Due) (p : Option Opened) (gs : List Frame) → after_node P (map (λ f. f.announced) (f ∷ fs)) x ≡ Some e → OnNode ds g f fs n x (going p gs) → StandsAt e p gs
at-node [] P g f fs n x e p gs on walks = absurd cc
at-node (d ∷ ds) P g f fs n x e p gs on (inl y) = let stops = y.1 in absurd cc
at-node (d ∷ ds) P g f fs n x e p gs on (inr y) = node-next f.announced P g f ds d.sketch fs n x e p gs refl on y.1

next-by : (P : ℕ) (g : Setting) (o : Option Opened) (fs : List Frame) (n : ℕ) (l : Line) (e : Due) (p : Option Opened) (gs : List Frame) → IsGoing o fs → after P 0 (marks_of o) (settled (announced_of o fs)) (of_line l) ≡ Some e → OnLine g o fs n l (going p gs) → StandsAt e p gs
next-by P g (Some o) fs n (of_marks m) e p gs go on (inl y) = let stops = y.1 in absurd cc
next-by P g (Some o) fs n (of_marks m) e p gs go on (inr y) = marks-next o.marks P g o _ fs (of_marks m) e p gs refl go on refl y.1
next-by P g (Some o) fs n (of_node x) e p gs go on walks = absurd (no-node P o.marks (settled (announced_of (Some o) fs)) x e go on)
next-by P g None fs n (of_marks m) e p gs go on walks = absurd cc
next-by P g None [] n (of_node x) e p gs go on walks = absurd cc
next-by P g None (f ∷ fs) n (of_node x) e p gs go on walks = at-node f.due P g f fs n x e p gs (open-here P (f ∷ fs) x e go on) walks

-- where the walk goes on, it stands where the rest is due
pub due-next : (g : Setting) (d e : Due) (o : Option Opened) (fs : List Frame) (n : ℕ) (l : Line) (p : Option Opened) (gs : List Frame) → StandsAt d o fs → next d (of_line l) ≡ Some e → OnLine g o fs n l (going p gs) → StandsAt e p gs
due-next g d e o fs n l p gs s on walks = next-by d.prices g o fs n l e p gs s.going (next-here d e o fs l s on) walks

-- THE END

nothing-left : (fs : List Frame) → is_done 0 0 (map (λ f. f.announced) fs) ≡ true → fs ≡ []
nothing-left [] e = refl
nothing-left (f ∷ fs) e = absurd cc

not-over : (c : ℕ) (nodes : List ℕ) → 0 < c → is_done 0 c nodes ≡ true → ⊥
not-over zero nodes some e = omega arith
not-over (suc c) nodes some e = cc

over-here : (d : Due) (o : Option Opened) (fs : List Frame) → StandsAt d o fs → is_over d ≡ is_done 0 (marks_of o) (settled (announced_of o fs))
over-here d o fs s = ap (λ (w : ℕ). is_done w d.marks d.nodes) s.wanted ∙ ap (λ (m : ℕ). is_done 0 m d.nodes) s.marks ∙ ap (λ (ns : List ℕ). is_done 0 (marks_of o) ns) s.nodes

ends-by : (o : Option Opened) (fs : List Frame) → IsGoing o fs → is_done 0 (marks_of o) (settled (announced_of o fs)) ≡ true → going o fs ≡ going None []
ends-by (Some o) fs go e = absurd (not-over o.marks (settled (announced_of (Some o) fs)) go e)
ends-by None fs go e = ap (going None) (nothing-left fs (ap (is_done 0 0) (sym (settled-open fs go)) ∙ e))

-- nothing is due if and only if the walk is at its end
pub over-ends : (d : Due) (o : Option Opened) (fs : List Frame) → StandsAt d o fs → is_over d ≡ true → going o fs ≡ going None []
over-ends d o fs s e = ends-by o fs s.going (sym (over-here d o fs s) ∙ e)

none-over : (o : Option Opened) (fs : List Frame) → going o fs ≡ going None [] → is_done 0 (marks_of o) (settled (announced_of o fs)) ≡ true
none-over None [] e = refl
none-over None (f ∷ fs) e = absurd cc
none-over (Some o) fs e = absurd cc

pub ends-over : (d : Due) (o : Option Opened) (fs : List Frame) → StandsAt d o fs → going o fs ≡ going None [] → is_over d ≡ true
ends-over d o fs s e = over-here d o fs s ∙ none-over o fs e
