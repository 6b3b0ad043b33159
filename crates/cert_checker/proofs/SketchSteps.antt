-- A line of a sketch, as it is due and as it is walked.
use Rattle.std.proofs.Common.{◌≡◌, ℕ, zero, suc, ◌+◌, ◌-◌, false, cond, inl, inr, List, [], ◌∷◌, ◌++◌, length, refl, sym, ap, ◌∙◌, subst, arith, length-append}
use Rattle.std.proofs.lemmas.Bool.{both_ways, cases_Bool, cond-false, cond-true}
use Rattle.std.specs.Prelude.{Option, Some, None}
use Rattle.capture_prices.specs.Prices.{PriceList}
use Rattle.query_base.specs.Asked.{Asked}
use Rattle.sketch_text.specs.Heads.{Head}
use Rattle.sketch_text.specs.Trees.{Line}
use Rattle.sketch_body.specs.Bodies.{Item, of_line, of_prices}
use Rattle.sketch_body.specs.Due.{Due, Reading, after, is_done, is_over, next, read_as, start, step}
use Rattle.sketch_body.proofs.Readings.{start_parts}
use Rattle.sketch_body.proofs.Steps.{next_kept, says_read, step_parts}
use Rattle.sketch_checker.specs.Proofs.{Setting}
use Rattle.sketch_checker.specs.LineWalk.{OnLine, OnStep, Walking as SketchWalking}
use Rattle.sketch_checker.specs.LineWalk as sketches
use Rattle.sketch_checker.specs.Supports.{MayAsk, setting_of}
use Rattle.sketch_checker.specs.Walks.{Frame as SketchFrame, Opened}
use Rattle.cert_text.specs.Lines.{said}
use Rattle.cert_text.proofs.Due.{unbegun}
use Rattle.cert_text.proofs.SpelledLines.{said_back, said_read}
use Rattle.cert_checker.specs.Frames.{OnNodes, Sketched, as_sketched, first_sketched, going, marks_due, sketching}
use Rattle.cert_checker.specs.SketchLines.{StandsAt}
use Rattle.cert_checker.specs.Sketching.{AreNext, IsInStep, frames_in, opened_in}
use Rattle.cert_checker.specs.Kept.{Frame}
use Rattle.cert_checker.proofs.SketchPlaces.{due-next, ends-over, over-ends}

-- WHAT A LINE SAYS

marks_next : (d : Due) (at : Option (Option Opened × List SketchFrame)) → AreNext d at → d.marks ≡ marks_due at
marks_next d None is = is.0
marks_next d (Some (None, fs)) is = is.marks
marks_next d (Some (Some o, fs)) is = is.marks

-- what is read as due is read where the walk stands
pub says_item : (s : Sketched) (r later : Reading) (line : List ℕ) (i : Item) → IsInStep s r → said (step r) line ≡ Some (i, later) → said (read_as (length s.prices + s.wanted) s.wanted (marks_due s.nodes)) line ≡ Some i
says_item s r later line i is e =
    let t = said_read (step r) line (i, later) e in
    let p = step_parts r t.text i later t.stands in
    let read : read_as r.due.prices r.due.wanted r.due.marks t.text ≡ Some i = says_read r.due.prices r.due.wanted r.due.marks r.due.nodes t.text i later.due p.says p.on in
    let marks : r.due.marks ≡ marks_due s.nodes = marks_next r.due s.nodes is.nodes in
    let here : read_as (length s.prices + s.wanted) s.wanted (marks_due s.nodes) t.text ≡ Some i =
    ap (λ (P : ℕ). read_as P s.wanted (marks_due s.nodes) t.text) (sym is.prices) ∙ ap (λ (w : ℕ). read_as r.due.prices w (marks_due s.nodes) t.text) (sym is.wanted)
    ∙ ap (λ (m : ℕ). read_as r.due.prices r.due.wanted m t.text) (sym marks) ∙ read in
    ap (said (read_as (length s.prices + s.wanted) s.wanted (marks_due s.nodes))) t.line_is ∙ said_back (read_as (length s.prices + s.wanted) s.wanted (marks_due s.nodes)) t.text i here

-- it is due next
pub said_next : (r later : Reading) (line : List ℕ) (i : Item) → said (step r) line ≡ Some (i, later) → next r.due i ≡ Some later.due
said_next r later line i e = let t = said_read (step r) line (i, later) e in let p = step_parts r t.text i later t.stands in p.on

-- THE FIRST LINE

pub first_in_step : (q : Asked) (units : ℕ) (h : Head) (first : Reading) → start units h ≡ Some first → IsInStep (first_sketched q h) first
first_in_step q units h first e =
    let s = start_parts units h first e in
    let P : first.due.prices ≡ h.prices = ap (λ (d : Due). d.prices) s.due_is in
    record {
      prices = omega (arith, P);
      wanted = ap (λ (d : Due). d.wanted) s.due_is;
      nodes = (ap (λ (d : Due). d.marks) s.due_is, ap (λ (d : Due). d.nodes) s.due_is);
      still = unbegun units h first e;
    }

-- LINES OF PRICES

record IsPriced (w marks : ℕ) (nodes : List ℕ) (e : Due) : Type 0 where
  one : w ≡ suc e.wanted
  marks_are : e.marks ≡ marks
  nodes_are : e.nodes ≡ nodes

priced : (P w marks : ℕ) (nodes : List ℕ) (p : PriceList) (e : Due) → after P w marks nodes (of_prices p) ≡ Some e → IsPriced w marks nodes e
priced P zero marks nodes p e on = absurd cc
priced P (suc w) marks nodes p e on =
    let is : record { prices = P; wanted = w; marks = marks; nodes = nodes } ≡ e = cc in
    record { one = ap (λ (d : Due). suc d.wanted) is; marks_are = ap (λ (d : Due). d.marks) (sym is); nodes_are = ap (λ (d : Due). d.nodes) (sym is) }

wanted_still : (w : ℕ) (marks : ℕ) (nodes : List ℕ) → marks ≡ 0 → nodes ≡ 1 ∷ [] → is_done w marks nodes ≡ false
wanted_still zero marks nodes none one = ap (λ (m : ℕ). is_done zero m nodes) none ∙ ap (is_done zero zero) one
wanted_still (suc w) marks nodes none one = refl

-- no node has come, if prices are due
none_come : (d : Due) (at : Option (Option Opened × List SketchFrame)) (w : ℕ) → d.wanted ≡ suc w → AreNext d at → (d.marks ≡ 0) × (d.nodes ≡ 1 ∷ []) × (at ≡ None)
none_come d None w some is = (is.0, is.1, refl)
none_come d (Some (o, fs)) w some is = let none = is.wanted in absurd (omega arith)

pub prices_kept : (s : Sketched) (r later : Reading) (p : PriceList) → IsInStep s r → next r.due (of_prices p) ≡ Some later.due → IsInStep (record s { prices = s.prices ++ p ∷ []; wanted = s.wanted - 1 }) later
prices_kept s r later p is on =
    let x = priced r.due.prices r.due.wanted r.due.marks r.due.nodes p later.due on in
    let y = none_come r.due s.nodes later.due.wanted x.one is.nodes in
    let marks : later.due.marks ≡ 0 = x.marks_are ∙ y.0 in
    let nodes : later.due.nodes ≡ 1 ∷ [] = x.nodes_are ∙ y.1 in
    let first : AreNext later.due None = (marks, nodes) in
    record {
      prices = omega (arith, next_kept r.due (of_prices p) later.due on, is.prices, is.wanted, x.one, length-append s.prices (p ∷ []));
      wanted = omega (arith, is.wanted, x.one);
      nodes = subst (AreNext later.due) (sym y.2) first;
      still = wanted_still later.due.wanted later.due.marks later.due.nodes marks nodes;
    }

-- LINES OF NODES AND OF MARKS

line_wanted : (P w marks : ℕ) (nodes : List ℕ) (l : Line) (e : Due) → after P w marks nodes (of_line l) ≡ Some e → w ≡ 0
line_wanted P zero marks nodes l e on = refl
line_wanted P (suc w) marks nodes l e on = absurd cc

stands_next : (d : Due) (s : Sketched) (at : Option (Option Opened × List SketchFrame)) → d.wanted ≡ 0 → AreNext d at → StandsAt d (opened_in at) (frames_in s at)
stands_next d s None none is = record { going = omega arith; wanted = none; marks = is.0; nodes = is.1 }
stands_next d s (Some (o, fs)) none is = is

-- the walk stands where such a line is due
pub stands_here : (s : Sketched) (r later : Reading) (l : Line) → IsInStep s r → next r.due (of_line l) ≡ Some later.due → StandsAt r.due (opened_in s.nodes) (frames_in s s.nodes)
stands_here s r later l is on = stands_next r.due s s.nodes (line_wanted r.due.prices r.due.wanted r.due.marks r.due.nodes l later.due on) is.nodes

-- and where it goes on behind it
pub stands_later : (g : Setting) (s : Sketched) (r later : Reading) (n : ℕ) (l : Line) (o : Option Opened) (fs : List SketchFrame) → IsInStep s r → next r.due (of_line l) ≡ Some later.due → OnLine g (opened_in s.nodes) (frames_in s s.nodes) n l (sketches.going o fs) → StandsAt later.due o fs
stands_later g s r later n l o fs is on walks = due-next g r.due later.due (opened_in s.nodes) (frames_in s s.nodes) n l o fs (stands_here s r later l is on) on walks

pub nodes_kept : (s : Sketched) (r later : Reading) (l : Line) (o : Option Opened) (fs : List SketchFrame) → IsInStep s r → next r.due (of_line l) ≡ Some later.due → StandsAt later.due o fs → is_over later.due ≡ false → IsInStep (record s { nodes = Some (o, fs) }) later
nodes_kept s r later l o fs is on stands still =
    let none = line_wanted r.due.prices r.due.wanted r.due.marks r.due.nodes l later.due on in
    record {
      prices = next_kept r.due (of_line l) later.due on ∙ is.prices;
      wanted = stands.wanted ∙ sym none ∙ is.wanted;
      nodes = stands;
      still = still;
    }

-- the walk behind such a line: at the end of the sketch, or in it

open_as : (o : Option Opened) (fs : List SketchFrame) (s : Sketched) (frames : List Frame) → (sketches.going o fs ≡ sketches.going None [] → ⊥) → as_sketched (sketches.going o fs) s frames ≡ sketching (record s { nodes = Some (o, fs) }) frames
open_as None [] s frames open_ = absurd (open_ refl)
open_as None (f ∷ fs) s frames open_ = refl
open_as (Some o) fs s frames open_ = refl

pub behind_as : (d : Due) (o : Option Opened) (fs : List SketchFrame) (s : Sketched) (frames : List Frame) → StandsAt d o fs → as_sketched (sketches.going o fs) s frames ≡ cond (is_over d) (going frames) (sketching (record s { nodes = Some (o, fs) }) frames)
behind_as d o fs s frames stands = elim (cases_Bool (is_over d)) [
  | inl over ↦ ap (λ (w : SketchWalking). as_sketched w s frames) (over-ends d o fs stands over) ∙ sym (cond-true (is_over d) (going frames) (sketching (record s { nodes = Some (o, fs) }) frames) over)
  | inr still ↦ open_as o fs s frames (λ end. both_ways (is_over d) still (ends-over d o fs stands end)) ∙ sym (cond-false (is_over d) (going frames) (sketching (record s { nodes = Some (o, fs) }) frames) still)
]

-- the walk over the nodes, as that of the certificate
pub on_nodes : (at : Option (Option Opened × List SketchFrame)) (s : Sketched) (frames : List Frame) (n : ℕ) (l : Line) (next_ : SketchWalking) → (at ≡ None → MayAsk s.query s.prices) → OnStep (setting_of s.query s.exact s.prices) (sketches.going (opened_in at) (frames_in s at)) n l next_ → OnNodes at s frames n l (as_sketched next_ s frames)
on_nodes None s frames n l next_ may on = inr (may refl, (next_, on, refl))
on_nodes (Some (o, fs)) s frames n l next_ may on = (next_, on, refl)
