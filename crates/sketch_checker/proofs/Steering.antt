-- How frames are taken off and put on.
use Rattle.std.proofs.Common.{◌≡◌, ℕ, zero, suc, ◌+◌, ◌-◌, ◌<◌, ◌≤◌, ◌&&◌, ◌↔◌, Bool, true, List, [], ◌∷◌, ◌++◌, append-nil, length, map, refl, ap, sym, ◌∙◌, subst, arith}
use Rattle.std.proofs.lemmas.Bool.{and_parts, both_ways, eqb-true, ltb-true}
use Rattle.std.specs.Prelude.{Err, MatchOption, Ok, OnErr, Option, Result, Some, None, nat_lt, slice_get}
use Rattle.std.specs.List.{All}
use Rattle.capture_prices.specs.Prices.{PriceList}
use Rattle.sketch_text.specs.Marks.{Marks}
use Rattle.sketch_text.specs.declared.nodes.End.{End}
use Rattle.sketch_text.specs.declared.nodes.SketchNode.{SketchNode}
use Rattle.figures.specs.Figures.{Sketch}
use Rattle.sketch_text.specs.declared.labels.Label.TheVariants.{Now}
use Rattle.sketch_text.specs.Trees.{Line, lines_below, lines_of, more, none, of_marks, of_node}
use Rattle.sketch_proof.specs.Proofs.{AreForced, Proves, Setting}
use Rattle.sketch_checker.specs.Walks.{Completes, CompletesOpened, Frame, FinishesAt, Opened}
use Rattle.sketch_proof.specs.Nodes.{IsMarkable, marked_with}
use Rattle.sketch_checker.specs.Placed.{IsNext, announced_by}
use Rattle.sketch_checker.specs.Steering.{AllAble, IsLineAt, IsOpen, IsReady, is_over, read}
use Rattle.sketch_checker.proofs.Completing.{all-done, frame, line-due, marks-tells, marks-told, more-due, node-tells, node-told, none-due, opened}
use Rattle.sketch_checker.proofs.Coming.{other-label, over, too-deep}
use Rattle.sketch_checker.proofs.Going.{begins-able}
use Rattle.sketch_checker.specs.Beginning.{CanBegin}
use Rattle.sketch_checker.proofs.Below.{at-line, line-at, no-line}
use Rattle.sketch_checker.specs.DueNodes.{Due}

-- nothing can come below a frame below whose node nothing is due
pub stopped : (g : Setting) (fs : List Frame) (lines : List Line) → fs ≡ frame 0 1 [] ∷ [] → Completes g fs lines → ⊥
stopped g fs lines e it = none-due g 0 0 [] lines (subst (λ (x : List Frame). Completes g x lines) e it)

shut : (n : ℕ) → (0 < n → ⊥) → n ≡ 0
shut zero closed = refl
shut (suc n) closed = absurd (closed (omega arith))

done-frame : (g : Setting) (k n : ℕ) (ds : List Due) (fs : List Frame) (lines : List Line) → n ≡ 0 → ds ≡ [] → length fs ≤ 65 → Completes g fs lines ↔ Completes g (frame k n ds ∷ fs) lines
done-frame g k n ds fs lines none_ nothing few =
    subst (λ (x : List Due). Completes g fs lines ↔ Completes g (frame k n x ∷ fs) lines) (sym nothing)
    (subst (λ (m : ℕ). Completes g fs lines ↔ Completes g (frame k m [] ∷ fs) lines) (sym none_) (let h = all-done g k fs lines few in (h.1, h.0)))

-- a frame that has no node to come, and below which nothing is left, can be taken off
pub taken-off : (g : Setting) (f : Frame) (fs : List Frame) (lines : List Line) → (0 < f.announced → ⊥) → f.due ≡ [] → length fs ≤ 65 → Completes g fs lines ↔ Completes g (f ∷ fs) lines
taken-off g f fs lines closed nothing few = done-frame g f.line f.announced f.due fs lines (shut f.announced closed) nothing few

left-frame : (g : Setting) (k n : ℕ) (ds : List Due) (fs : List Frame) (lines : List Line) → n ≡ 0 → (ds ≡ [] → ⊥) → Completes g (frame k n ds ∷ fs) lines → ⊥
left-frame g k n [] fs lines none_ some it = some refl
left-frame g k n (d ∷ ds) fs lines none_ some it = more-due g k d ds fs lines (subst (λ (m : ℕ). Completes g (frame k m (d ∷ ds) ∷ fs) lines) none_ it)

-- if something is left, nothing completes the walk
pub left-over : (g : Setting) (f : Frame) (fs : List Frame) (lines : List Line) → (0 < f.announced → ⊥) → (f.due ≡ [] → ⊥) → Completes g (f ∷ fs) lines → ⊥
left-over g f fs lines closed some it = left-frame g f.line f.announced f.due fs lines (shut f.announced closed) some it

-- the walk is over
over-at : (g : Setting) (k n : ℕ) (ds : List Due) (fs : List Frame) → 0 < n → Completes g (frame k n ds ∷ fs) [] → ⊥
over-at g k zero ds fs some it = omega (arith, some)
over-at g k (suc m) ds fs some it = line-due g k m ds fs it

pub none-opened : (g : Setting) (o : Opened) (fs : List Frame) → 0 < o.marks → CompletesOpened g o fs [] → ⊥
none-opened g o fs some it = by-marks it.marks it.many it.lines_are
  where
    by-marks : (ms : List Marks) → length ms ≡ o.marks → [] ≡ map (λ m. of_marks m) ms ++ (lines_below it.reason ++ it.rest) → ⊥
    by-marks [] many e = omega (arith, many, some)
    by-marks (m ∷ ms) many e = cc

pub over-told : (odds : List Bool) (g : Setting) (o : Option Opened) (fs : List Frame) (b : Bool) → b ≡ is_over o fs → IsReady odds o fs → (b ≡ true → FinishesAt g o fs []) × (FinishesAt g o fs [] → b ≡ true)
over-told odds g None [] b e ready = (λ yes_. refl, λ it. e)
over-told odds g None (f ∷ fs) b e ready = (
  λ yes_. let many : length (f ∷ fs) ≡ 0 = eqb-true (length (f ∷ fs)) 0 (sym e ∙ yes_) in let never : ⊥ = omega (arith, many) in absurd never,
  λ it. absurd (over-at g f.line f.announced f.due fs ready.0 it),
)
over-told odds g (Some o) fs b e ready = (λ yes_. absurd (both_ways b e yes_), λ it. absurd (none-opened g o fs ready.0 it))

-- the first node of all
pub first-proves : (g : Setting) (S : Sketch) (lines : List Line) → Completes g (frame 0 1 (record { label = Now; sketch = S } ∷ []) ∷ []) lines ↔ Proves g S lines
first-proves g S lines = (told, tells)
  where
    told : Completes g (frame 0 1 (record { label = Now; sketch = S } ∷ []) ∷ []) lines → Proves g S lines
    told (none, rest, many, due, low, e, done) = absurd due
    told (more n none, rest, many, due, low, e, done) = record {
      tree = n;
      written = sym (e ∙ ap (λ (l : List Line). (lines_of n ++ []) ++ l) done ∙ append-nil (lines_of n ++ []) ∙ append-nil (lines_of n));
      holds = due.0;
      low = omega (arith, low);
    }
    told (more n (more m ns), rest, many, due, low, e, done) = absurd due.1

    tells : Proves g S lines → Completes g (frame 0 1 (record { label = Now; sketch = S } ∷ []) ∷ []) lines
    tells it = (more it.tree none, [], refl, (it.holds, tt), omega (arith, it.low), sym it.written ∙ sym (append-nil (lines_of it.tree)) ∙ sym (append-nil (lines_of it.tree ++ [])), refl)

pub first-ready : (o : List Bool) (fs : List Frame) (S : Sketch) → fs ≡ frame 0 1 (record { label = Now; sketch = S } ∷ []) ∷ [] → CanBegin o S → IsOpen fs × AllAble o fs
first-ready o fs S e begins = subst (λ (x : List Frame). IsOpen x × AllAble o x) (sym e) (omega arith, ((begins-able o S begins, tt), tt))

-- LINES OF PRICES

pub priced-at : (g : Setting) (k : ℕ) (lines : List PriceList) (r : Option PriceList) → lines ≡ g.prices → (k ≡ 0 → ⊥) → r ≡ slice_get lines (k - 1) → MatchOption r ((p : PriceList) → IsLineAt g k p → ⊥) (λ p. IsLineAt g k p)
priced-at g k lines None same some e = λ p line.
    let index : line.index ≡ k - 1 = omega (arith, line.from_one) in
    neither p (e ∙ ap (λ (l : List PriceList). slice_get l (k - 1)) same ∙ ap (λ (i : ℕ). slice_get g.prices i) (sym index) ∙ line.there)
  where
    neither : (p : PriceList) → None ≡ Some p → ⊥
    neither p e = cc
priced-at g k lines (Some p) same some e = record {
  index = k - 1;
  from_one = above k some;
  there = ap (λ (l : List PriceList). slice_get l (k - 1)) (sym same) ∙ sym e;
}
  where
    above : (k : ℕ) → (k ≡ 0 → ⊥) → k ≡ (k - 1) + 1
    above zero bad = absurd (bad refl)
    above (suc k) bad = omega arith

-- TAKING FRAMES OFF

pub frames-step : (g : Setting) (lines : List Line) (old new : List Frame) (f : Frame) → old ≡ f ∷ new → (IsOpen old → ⊥) → f.due ≡ [] → length old ≤ 65 → Completes g new lines ↔ Completes g old lines
frames-step g lines old new f e closed nothing few =
    subst (λ (fs : List Frame). (IsOpen fs → ⊥) → length fs ≤ 65 → Completes g new lines ↔ Completes g fs lines) (sym e) (λ shut_ low. taken-off g f new lines shut_ nothing (omega (arith, low))) closed few

pub frames-left : (g : Setting) (lines : List Line) (old new : List Frame) (f : Frame) → old ≡ f ∷ new → (IsOpen old → ⊥) → (f.due ≡ [] → ⊥) → Completes g old lines → ⊥
frames-left g lines old new f e closed some =
    subst (λ (fs : List Frame). (IsOpen fs → ⊥) → Completes g fs lines → ⊥) (sym e) (λ shut_ it. left-over g f new lines shut_ some it) closed

pub frames-able : (o : List Bool) (old new : List Frame) (f : Frame) → old ≡ f ∷ new → AllAble o old → AllAble o new
frames-able o old new f e able = (subst (AllAble o) e able).1

pub err-anyway : {A E : Type 0} (r : Result A E) (P : Type 0) → P → OnErr r P
err-anyway (Ok a) P it = tt
err-anyway (Err e) P it = it

-- OPENING A NODE

pub opens : (g : Setting) (j k n : ℕ) (ds : List Due) (d : Due) (rest : List Due) (fs new : List Frame) (x : SketchNode) (lines : List Line) → 0 < n → ds ≡ d ∷ rest → x.label ≡ d.label → new ≡ frame k (n - 1) rest ∷ fs → CompletesOpened g (opened j x.marks x.end d.sketch) new lines ↔ Completes g (frame k n ds ∷ fs) (of_node x ∷ lines)
opens g j k zero ds d rest fs new x lines some first label made = absurd (let never : ⊥ = omega (arith, some) in never)
opens g j k (suc m) ds d rest fs new x lines some first label made =
    subst (λ (l : List Due). CompletesOpened g (opened j x.marks x.end d.sketch) new lines ↔ Completes g (frame k (suc m) l ∷ fs) (of_node x ∷ lines)) (sym first)
    (subst (λ (l : List Frame). CompletesOpened g (opened j x.marks x.end d.sketch) l lines ↔ Completes g (frame k (suc m) (d ∷ rest) ∷ fs) (of_node x ∷ lines)) (sym (made ∙ ap (λ (n : ℕ). frame k n rest ∷ fs) (let one : suc m - 1 ≡ m = omega arith in one)))
    (λ it. node-tells g j k m d rest fs x lines label it, λ it. (node-told g j k m d rest fs x lines it).1))

pub strays : (g : Setting) (k n : ℕ) (ds : List Due) (fs : List Frame) (x : SketchNode) (lines : List Line) → 0 < n → (IsNext ds x.label → ⊥) → Completes g (frame k n ds ∷ fs) (of_node x ∷ lines) → ⊥
strays g k zero ds fs x lines some other it = omega (arith, some)
strays g k (suc m) ds fs x lines some other it = other-label g k m ds fs x lines other it

deep-frame : (g : Setting) (k n : ℕ) (ds : List Due) (fs : List Frame) (x : SketchNode) (lines : List Line) → 0 < n → 63 < length fs → 0 < announced_by x.end → Completes g (frame k n ds ∷ fs) (of_node x ∷ lines) → ⊥
deep-frame g k zero ds fs x lines some deep more_ it = omega (arith, some)
deep-frame g k (suc m) ds fs x lines some deep more_ it = too-deep g k m ds fs x lines deep more_ it

pub deep-none : (g : Setting) (fs : List Frame) (x : SketchNode) (lines : List Line) (b : Bool) → IsOpen fs → b ≡ true → b ≡ (nat_lt 64 (length fs) && nat_lt 0 (announced_by x.end)) → Completes g fs (of_node x ∷ lines) → ⊥
deep-none g [] x lines b ready yes_ e it = over (of_node x) lines it
deep-none g (f ∷ fs) x lines b ready yes_ e it =
    let both = and_parts (nat_lt 64 (length (f ∷ fs))) (nat_lt 0 (announced_by x.end)) (sym e ∙ yes_) in
    let deep : 64 < length (f ∷ fs) = ltb-true 64 (length (f ∷ fs)) both.0 in
    deep-frame g f.line f.announced f.due fs x lines ready (omega (arith, deep)) (ltb-true 0 (announced_by x.end) both.1) it

-- MARKS

opened-marks : (o : Opened) (n : ℕ) → o.marks ≡ n → o ≡ opened o.line n o.end o.sketch
opened-marks o n e = λ i. record { line = o.line; marks = e i; end = o.end; sketch = o.sketch }

by-marks : (g : Setting) (o : Opened) (l : Marks) (n : ℕ) (S : Sketch) (fs : List Frame) (lines : List Line) → o.marks ≡ n → 0 < n → AreForced g o.sketch l → S ≡ marked_with l.figures o.sketch → CompletesOpened g (opened o.line (n - 1) o.end S) fs lines ↔ CompletesOpened g o fs (of_marks l ∷ lines)
by-marks g o l zero S fs lines e some forced made = absurd (let never : ⊥ = omega (arith, some) in never)
by-marks g o l (suc c) S fs lines e some forced made =
    subst (λ (x : Opened). CompletesOpened g (opened o.line (suc c - 1) o.end S) fs lines ↔ CompletesOpened g x fs (of_marks l ∷ lines)) (sym (opened-marks o (suc c) e))
    (subst (λ (m : ℕ). CompletesOpened g (opened o.line m o.end S) fs lines ↔ CompletesOpened g (opened o.line (suc c) o.end o.sketch) fs (of_marks l ∷ lines)) (let one : c ≡ suc c - 1 = omega arith in one)
    (subst (λ (T : Sketch). CompletesOpened g (opened o.line c o.end T) fs lines ↔ CompletesOpened g (opened o.line (suc c) o.end o.sketch) fs (of_marks l ∷ lines)) (sym made)
    (λ it. marks-tells g o.line c o.end o.sketch fs l lines forced it, λ it. (marks-told g o.line c o.end o.sketch fs l lines it).1)))

needs-forced : (g : Setting) (o : Opened) (l : Marks) (n : ℕ) (fs : List Frame) (lines : List Line) → o.marks ≡ n → 0 < n → CompletesOpened g o fs (of_marks l ∷ lines) → AreForced g o.sketch l
needs-forced g o l zero fs lines e some it = absurd (let never : ⊥ = omega (arith, some) in never)
needs-forced g o l (suc c) fs lines e some it = (marks-told g o.line c o.end o.sketch fs l lines (subst (λ (x : Opened). CompletesOpened g x fs (of_marks l ∷ lines)) (opened-marks o (suc c) e) it)).0

-- what the program knows of a line of marks that is so
pub mark-go : (g : Setting) (o : Opened) (l : Marks) (by : ℕ) (p : PriceList) (figures : List ℕ) (S : Sketch) → 0 < o.marks → by ≡ l.by → IsLineAt g by p → figures ≡ l.figures → All (λ n. IsMarkable g.odds g.held p o.sketch n) figures → S ≡ marked_with figures o.sketch → (fs : List Frame) (lines : List Line) → CompletesOpened g (opened o.line (o.marks - 1) o.end S) fs lines ↔ CompletesOpened g o fs (of_marks l ∷ lines)
mark-go g o l by p figures S some by_is line figures_are all made fs lines =
    by-marks g o l o.marks S fs lines refl some
    (at-line g l.by (λ q. All (λ n. IsMarkable g.odds g.held q o.sketch n) l.figures) p (subst (λ (k : ℕ). IsLineAt g k p) by_is line) (subst (λ (x : List ℕ). All (λ n. IsMarkable g.odds g.held p o.sketch n) x) figures_are all))
    (made ∙ ap (λ (x : List ℕ). marked_with x o.sketch) figures_are)

pub mark-unpriced : (g : Setting) (o : Opened) (l : Marks) (by : ℕ) → 0 < o.marks → by ≡ l.by → ((p : PriceList) → IsLineAt g by p → ⊥) → (fs : List Frame) (lines : List Line) → CompletesOpened g o fs (of_marks l ∷ lines) → ⊥
mark-unpriced g o l by some by_is none_ fs lines it =
    no-line g l.by (λ q. All (λ n. IsMarkable g.odds g.held q o.sketch n) l.figures) (λ p line. none_ p (subst (λ (k : ℕ). IsLineAt g k p) (sym by_is) line)) (needs-forced g o l o.marks fs lines refl some it)

pub mark-unforced : (g : Setting) (o : Opened) (l : Marks) (by : ℕ) (p : PriceList) (figures : List ℕ) → 0 < o.marks → by ≡ l.by → IsLineAt g by p → figures ≡ l.figures → (All (λ n. IsMarkable g.odds g.held p o.sketch n) figures → ⊥) → (fs : List Frame) (lines : List Line) → CompletesOpened g o fs (of_marks l ∷ lines) → ⊥
mark-unforced g o l by p figures some by_is line figures_are not_all fs lines it =
    not_all (subst (λ (x : List ℕ). All (λ n. IsMarkable g.odds g.held p o.sketch n) x) (sym figures_are)
    (line-at g l.by (λ q. All (λ n. IsMarkable g.odds g.held q o.sketch n) l.figures) p (subst (λ (k : ℕ). IsLineAt g k p) by_is line) (needs-forced g o l o.marks fs lines refl some it)))

-- all marks are read
pub all-read : (o : Opened) (line n : ℕ) (end : End) (S : Sketch) → n ≤ 0 → opened line n end S ≡ o → read line end S ≡ o
all-read o line n end S few e = let none_ : 0 ≡ n = omega (arith, few) in ap (λ (m : ℕ). opened line m end S) none_ ∙ e
