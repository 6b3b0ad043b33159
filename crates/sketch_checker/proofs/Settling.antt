-- Frames that are taken off, as the walk over lines does.
use Rattle.std.proofs.Common.{◌≡◌, ℕ, zero, suc, ◌+◌, ◌-◌, ◌<◌, ◌↔◌, inr, Bool, true, List, [], ◌∷◌, length, refl, ap, sym, ◌∙◌, subst, arith}
use Rattle.std.proofs.lemmas.Bool.{both_ways, eqb-true}
use Rattle.std.specs.Prelude.{Err, Ok, Option, Result, Some, None}
use Rattle.std.specs.List.{All}
use Rattle.capture_prices.specs.Prices.{PriceList}
use Rattle.figures.specs.Figures.{Sketch}
use Rattle.figures.specs.Homes.{may_be_array}
use Rattle.sketch_proof.specs.Nodes.{IsLeastAbove, IsMarkable, marked_with}
use Rattle.sketch_proof.proofs.Least.{least-one}
use Rattle.sketch_text.specs.Marks.{Marks}
use Rattle.sketch_text.specs.Trees.{Line, Node, lines_of}
use Rattle.sketch_proof.specs.Proofs.{AreForced, Setting}
use Rattle.sketch_checker.specs.DueNodes.{Due, first_due}
use Rattle.sketch_checker.specs.LineWalk.{ComesTo, IsAfter, IsStop, IsWalked, OnOpened, StopsUnless, Walking, WalksOn, begun, ended, going, stopped}
use Rattle.sketch_checker.specs.Steering.{IsAnswer, IsLineAt, IsOpen, is_over}
use Rattle.sketch_checker.specs.TreeWalk.{IsBefore, Walked, Walks, Wrong, fault_at, next_line, stray, unsupported}
use Rattle.sketch_checker.specs.Walks.{Frame, Opened}
use Rattle.sketch_checker.specs.declared.faults.SketchFault.{SketchFault}
use Rattle.sketch_checker.specs.declared.faults.SketchFault.TheVariants as fault
use Rattle.sketch_checker.proofs.Below.{at-line, no-line}
use Rattle.sketch_checker.proofs.Completing.{frame, opened}
use Rattle.sketch_checker.proofs.LinesWalked.{tree-walk}

-- FRAMES

pub ended-open : (fs : List Frame) → IsOpen fs → ended fs ≡ going None fs
ended-open [] open_ = refl
ended-open (f ∷ fs) open_ = by-count f.line f.announced f.due open_
  where
    by-count : (k n : ℕ) (ds : List Due) → 0 < n → ended (frame k n ds ∷ fs) ≡ going None (frame k n ds ∷ fs)
    by-count k zero ds some = absurd (let never : ⊥ = omega (arith, some) in never)
    by-count k (suc n) ds some = refl

off : (k n : ℕ) (ds : List Due) (fs : List Frame) → (0 < n → ⊥) → ds ≡ [] → ended fs ≡ ended (frame k n ds ∷ fs)
off k zero [] fs shut none = refl
off k zero (d ∷ ds) fs shut none = cc
off k (suc n) ds fs shut none = absurd (shut (omega arith))

left-on : (k n : ℕ) (ds : List Due) (fs : List Frame) → (0 < n → ⊥) → (ds ≡ [] → ⊥) → ended (frame k n ds ∷ fs) ≡ stopped k unsupported
left-on k zero [] fs shut some = absurd (some refl)
left-on k zero (d ∷ ds) fs shut some = refl
left-on k (suc n) ds fs shut some = absurd (shut (omega arith))

pub ended-step : (old new : List Frame) (f : Frame) → old ≡ f ∷ new → (IsOpen old → ⊥) → f.due ≡ [] → ended new ≡ ended old
ended-step old new f e closed none = subst (λ (fs : List Frame). (IsOpen fs → ⊥) → ended new ≡ ended fs) (sym e) (λ shut. off f.line f.announced f.due new shut none) closed

pub ended-left : (old new : List Frame) (f : Frame) → old ≡ f ∷ new → (IsOpen old → ⊥) → (f.due ≡ [] → ⊥) → ended old ≡ stopped f.line unsupported
ended-left old new f e closed some = subst (λ (fs : List Frame). (IsOpen fs → ⊥) → ended fs ≡ stopped f.line unsupported) (sym e) (λ shut. left-on f.line f.announced f.due new shut some) closed

-- what a function answers
pub stops-at : (f : SketchFault) (n : ℕ) (w : Walking) → f ≡ fault.Unsupported n → w ≡ stopped n unsupported → IsStop f (λ k. k ≡ w)
stops-at (fault.Stray m) n w e is = cc
stops-at (fault.Unsupported m) n w e is = let same : m ≡ n = cc in ap (λ (k : ℕ). stopped k unsupported) same ∙ sym is
stops-at fault.Misplaced n w e is = cc

pub stop-weaker : (f : SketchFault) (P Q : Walking → Type 0) → ((w : Walking) → P w → Q w) → IsStop f P → IsStop f Q
stop-weaker (fault.Stray m) P Q more it = more (stopped m stray) it
stop-weaker (fault.Unsupported m) P Q more it = more (stopped m unsupported) it
stop-weaker fault.Misplaced P Q more it = tt

pub after-weaker : (r : Result Unit SketchFault) (o : Option Opened) (fs : List Frame) (P Q : Walking → Type 0) → ((w : Walking) → P w → Q w) → IsAfter r o fs P → IsAfter r o fs Q
after-weaker (Ok u) o fs P Q more it = more (going o fs) it
after-weaker (Err f) o fs P Q more it = stop-weaker f P Q more it

pub over-nothing : (o : Option Opened) (fs : List Frame) (b : Bool) → b ≡ is_over o fs → (b ≡ true → going o fs ≡ going None []) × (going o fs ≡ going None [] → b ≡ true)
over-nothing None [] b e = (λ yes_. refl, λ it. e)
over-nothing None (f ∷ fs) b e = (
  λ yes_. let many : length (f ∷ fs) ≡ 0 = eqb-true (length (f ∷ fs)) 0 (sym e ∙ yes_) in let never : ⊥ = omega (arith, many) in absurd never,
  λ it. cc,
)
over-nothing (Some o) fs b e = (λ yes_. absurd (both_ways b e yes_), λ it. cc)

-- MARKS AND STEPS

pub unpriced : (g : Setting) (S : Sketch) (l : Marks) (by : ℕ) → by ≡ l.by → ((p : PriceList) → IsLineAt g by p → ⊥) → AreForced g S l → ⊥
unpriced g S l by by_is none =
    no-line g l.by (λ q. All (λ n. IsMarkable g.odds g.held q S n) l.figures) (λ p line. none p (subst (λ (k : ℕ). IsLineAt g k p) (sym by_is) line))

pub mark-line : (g : Setting) (o : Opened) (l : Marks) (n by : ℕ) (p : PriceList) (figures : List ℕ) (S : Sketch) → by ≡ l.by → IsLineAt g by p → figures ≡ l.figures → All (λ n. IsMarkable g.odds g.held p o.sketch n) figures → S ≡ marked_with figures o.sketch
    → (fs : List Frame) (after : Walking) → OnOpened (o.marks - 1) g (opened o.line (o.marks - 1) o.end S) fs after
    → StopsUnless (AreForced g o.sketch l) n unsupported after (OnOpened (o.marks - 1) g (opened o.line (o.marks - 1) o.end (marked_with l.figures o.sketch)) fs after)
mark-line g o l n by p figures S by_is line figures_are all made fs after on = inr (
  at-line g l.by (λ q. All (λ n. IsMarkable g.odds g.held q o.sketch n) l.figures) p (subst (λ (k : ℕ). IsLineAt g k p) by_is line) (subst (λ (x : List ℕ). All (λ n. IsMarkable g.odds g.held p o.sketch n) x) figures_are all),
  subst (λ (T : Sketch). OnOpened (o.marks - 1) g (opened o.line (o.marks - 1) o.end T) fs after) (made ∙ ap (λ (x : List ℕ). marked_with x o.sketch) figures_are) on,
)

pub no-before : (g : Setting) (S T : Sketch) → IsLeastAbove g.held g.exact S T → may_be_array g.odds T ≡ true → (U : Sketch) → IsBefore g S U → ⊥
no-before g S T least array U before =
    let one : U ≡ T = least-one g.held g.exact S U T before.somewhere before.least least in
    both_ways (may_be_array g.odds U) before.no_array (ap (may_be_array g.odds) one ∙ array)

-- THE LINES OF A TREE

pub stays : (g : Setting) (lines : List Line) (m n : ℕ) (w : Wrong) → WalksOn g (stopped m w) n lines (stopped m w)
stays g [] m n w = refl
stays g (l ∷ lines) m n w = (stopped m w, refl, stays g lines m (n + 1) w)

comes-stopped : (tree : Node) (g : Setting) (d : Due) (n m : ℕ) (w : Wrong) (walked : Walked) → Walks tree g d n walked → ComesTo walked (stopped m w) → Walks tree g d n (fault_at m w)
comes-stopped tree g d n m w (fault_at j v) walk e =
    let line : j ≡ m = cc in
    let what : v ≡ w = cc in
    subst (λ (x : Wrong). Walks tree g d n (fault_at m x)) what (subst (λ (k : ℕ). Walks tree g d n (fault_at k v)) line walk)
comes-stopped tree g d n m w (next_line j) walk e = cc

comes-over : (tree : Node) (g : Setting) (d : Due) (n : ℕ) (o : Option Opened) (fs : List Frame) (b : Bool) (walked : Walked) → ((b ≡ true) ↔ (going o fs ≡ going None [])) → Walks tree g d n walked → ComesTo walked (going o fs) → (b ≡ true) × (m : ℕ) × Walks tree g d n (next_line m)
comes-over tree g d n o fs b (fault_at j v) is walk e = cc
comes-over tree g d n o fs b (next_line j) is walk e = (is.1 e, j, walk)

pub answer-walks : (r : Result Bool SketchFault) (g : Setting) (S : Sketch) (w : Walking) (lines : List Line) (tree : Node) → w ≡ begun S → lines_of tree ≡ lines → IsAnswer r g w 1 lines → IsWalked r (Walks tree g (first_due S) 1)
answer-walks r g S w lines tree start written it =
    by-answer r (subst (λ (k : Walking). IsAnswer r g k 1 (lines_of tree)) start (subst (λ (l : List Line). IsAnswer r g w 1 l) (sym written) it))
  where
    by-answer : (r : Result Bool SketchFault) → IsAnswer r g (begun S) 1 (lines_of tree) → IsWalked r (Walks tree g (first_due S) 1)
    by-answer (Ok done) (o, fs, is, walk) = let x = tree-walk tree g S 1 (going o fs) walk in comes-over tree g (first_due S) 1 o fs done x.0 is x.1 x.2
    by-answer (Err (fault.Stray n)) walk = let x = tree-walk tree g S 1 (stopped n stray) walk in comes-stopped tree g (first_due S) 1 n stray x.0 x.1 x.2
    by-answer (Err (fault.Unsupported n)) walk = let x = tree-walk tree g S 1 (stopped n unsupported) walk in comes-stopped tree g (first_due S) 1 n unsupported x.0 x.1 x.2
    by-answer (Err fault.Misplaced) walk = tt
