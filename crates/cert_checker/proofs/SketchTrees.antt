-- The walk over the lines of a sketch is the walk over its tree.
use Rattle.std.proofs.Common.{◌≡◌, ℕ, ◌+◌, ◌-◌, ◌≤◌, Bool, true, false, cond, inl, inr, List, [], ◌∷◌, ◌++◌, length, map, refl, sym, ap, ◌∙◌, subst, arith, append_assoc, append-nil}
use Rattle.std.proofs.lemmas.Bool.{both_ways, cases_Bool, cond-false, cond-true}
use Rattle.std.specs.Prelude.{Option, Some, None}
use Rattle.capture_prices.specs.Prices.{PriceList}
use Rattle.past_sketches.specs.Figures.{sketch_of}
use Rattle.query_base.specs.Asked.{Asked}
use Rattle.sketch_text.specs.Trees.{Line, Node, lines_of, node}
use Rattle.sketch_body.specs.Bodies.{AreTextsOf, Body, Item, head_of, most_units, of_line, of_prices, units_of}
use Rattle.sketch_body.specs.Due.{Leads, Reading, is_over, next, step}
use Rattle.sketch_body.proofs.Readings.{stops as over_stops}
use Rattle.sketch_checker.specs.Proofs.{Setting}
use Rattle.sketch_checker.specs.DueNodes.{first_due}
use Rattle.sketch_checker.specs.LineWalk.{ComesTo, OnStep, Walking as SketchWalking, WalksOn as SketchWalksOn, begun}
use Rattle.sketch_checker.specs.LineWalk as sketches
use Rattle.sketch_checker.specs.Supports.{BodyWalks, MayAsk, setting_of}
use Rattle.sketch_checker.specs.TreeWalk.{Walked as SketchWalked, Walks as WalksSketchTree}
use Rattle.sketch_checker.specs.TreeWalk as trees
use Rattle.sketch_checker.specs.Walks.{Frame as SketchFrame, Opened}
use Rattle.sketch_checker.proofs.LinesWalked.{tree-walk}
use Rattle.sketch_checker.proofs.Settling.{stays}
use Rattle.cert_text.specs.Lines.{ended}
use Rattle.cert_text.specs.Certificate.{Lines}
use Rattle.cert_text.proofs.Due.{sketch_reads}
use Rattle.cert_text.proofs.SpelledLines.{said_back}
use Rattle.cert_checker.specs.Frames.{OnItem, OnLine as CertOnLine, OnNodes, Sketched, Steps, Walking, WalksOn, as_sketched, first_sketched, going, sketching, stopped}
use Rattle.cert_checker.specs.SketchLines.{StandsAt}
use Rattle.cert_checker.specs.Sketches.{WalksSketch, files_of, why_of}
use Rattle.cert_checker.specs.Sketching.{IsInStep, frames_in}
use Rattle.cert_checker.specs.Walk.{unsupported}
use Rattle.cert_checker.specs.Kept.{Frame}
use Rattle.cert_checker.specs.declared.refusals.Why.TheVariants as why
use Rattle.cert_checker.proofs.SketchNumbers.{node-count}
use Rattle.cert_checker.proofs.SketchPlaces.{due-next, over-ends}
use Rattle.cert_checker.proofs.SketchSteps.{behind_as, first_in_step, nodes_kept, prices_kept, said_next, says_item, stands_here}
use Rattle.cert_checker.proofs.Stopping.{stops}

-- the walk over nodes is at its end, and the certificate goes on; or it has stopped, and so has the certificate's
abbrev Ends : SketchWalking → List Frame → ℕ → Lines → Walking → Type 0
Ends (sketches.stopped k v) frames n lines last = last ≡ stopped k (unsupported (why_of v))
Ends (sketches.going None []) frames n lines last = WalksOn (going frames) n lines last
Ends (sketches.going None (f ∷ fs)) frames n lines last = ⊥
Ends (sketches.going (Some o) fs) frames n lines last = ⊥

abbrev at_nodes : Sketched → Option Opened → List SketchFrame → Sketched
at_nodes s o fs = record s { nodes = Some (o, fs) }

-- LINES OF NODES AND OF MARKS

nothing_more : (r last_ : Reading) (texts : List (List ℕ)) (items : List Item) → is_over r.due ≡ true → Leads r texts items last_ → (texts ≡ []) × (items ≡ [])
nothing_more r last_ [] [] over leads = (refl, refl)
nothing_more r last_ [] (i ∷ items) over leads = absurd leads
nothing_more r last_ (t ∷ texts) [] over leads = absurd leads
nothing_more r last_ (t ∷ texts) (i ∷ items) over (s, e, rest) = let none = over_stops r t over in absurd cc

no_lines : (ls : List Line) → map (λ l. of_line l) ls ≡ [] → ls ≡ []
no_lines [] e = refl
no_lines (l ∷ ls) e = absurd cc

-- what a line says where the walk stands
item_on : (s : Sketched) (r later : Reading) (frames : List Frame) (n : ℕ) (text : List ℕ) (i : Item) (after : Walking) → IsInStep s r → step r text ≡ Some (i, later) → CertOnLine (sketching s frames) n (ended text) after → OnItem (Some i) s frames n after
item_on s r later frames n text i after is e on =
    subst (λ (o : Option Item). OnItem o s frames n after) (says_item s r later (ended text) i is (said_back (step r) text (i, later) e)) on

nodes_walk : (texts : List (List ℕ)) (ls : List Line) (s : Sketched) (o : Option Opened) (fs : List SketchFrame) (r last_ : Reading) (frames : List Frame) (n : ℕ) (lines : Lines) (last : Walking)
    → IsInStep (at_nodes s o fs) r → Leads r texts (map (λ l. of_line l) ls) last_ → is_over last_.due ≡ true → WalksOn (sketching (at_nodes s o fs) frames) n (map ended texts ++ lines) last
    → (w : SketchWalking) × SketchWalksOn (setting_of s.query s.exact s.prices) (sketches.going o fs) n ls w × Ends w frames (n + length ls) lines last
nodes_walk [] [] s o fs r last_ frames n lines last is leads over walks =
    let still : is_over last_.due ≡ false = ap (λ (t : Reading). is_over t.due) (sym leads) ∙ is.still in
    absurd (both_ways (is_over last_.due) still over)
nodes_walk [] (l ∷ ls) s o fs r last_ frames n lines last is leads over walks = absurd leads
nodes_walk (t ∷ texts) [] s o fs r last_ frames n lines last is leads over walks = absurd leads
nodes_walk (t ∷ texts) (l ∷ ls) s o fs r last_ frames n lines last is (later, e, rest) over (after, on, more) =
    let steps : Steps (sketches.going o fs) (at_nodes s o fs) frames n l after = item_on (at_nodes s o fs) r later frames n t (of_line l) after is e on in
    by_step steps.0 (λ p gs kept here. nodes_walk texts ls s p gs later last_ frames (n + 1) lines last kept rest over here) steps.1 steps.2
  where
    g : Setting
    g = setting_of s.query s.exact s.prices

    size : n + 1 + length ls ≡ n + length (l ∷ ls)
    size = omega arith

    due : next r.due (of_line l) ≡ Some later.due
    due = said_next r later (ended t) (of_line l) (said_back (step r) t (of_line l, later) e)

    -- what the walk over the lines that follow comes to
    Further : Option Opened → List SketchFrame → Type 0
    Further p gs = IsInStep (at_nodes s p gs) later → WalksOn (sketching (at_nodes s p gs) frames) (n + 1) (map ended texts ++ lines) last → (w : SketchWalking) × SketchWalksOn g (sketches.going p gs) (n + 1) ls w × Ends w frames (n + 1 + length ls) lines last

    on_from : (p : Option Opened) (gs : List SketchFrame) → Further p gs → OnStep g (sketches.going o fs) n l (sketches.going p gs) → StandsAt later.due p gs → after ≡ cond (is_over later.due) (going frames) (sketching (at_nodes s p gs) frames)
        → (w : SketchWalking) × SketchWalksOn g (sketches.going o fs) n (l ∷ ls) w × Ends w frames (n + length (l ∷ ls)) lines last
    on_from p gs go step_ stands is_ = elim (cases_Bool (is_over later.due)) [
      | inl end ↦
          let none = nothing_more later last_ texts (map (λ l. of_line l) ls) end rest in
          let no = no_lines ls none.1 in
          let at_end : after ≡ going frames = is_ ∙ cond-true (is_over later.due) (going frames) (sketching (at_nodes s p gs) frames) end in
          let here : WalksOn (going frames) (n + 1) (map ended texts ++ lines) last = subst (λ (w : Walking). WalksOn w (n + 1) (map ended texts ++ lines) last) at_end more in
          let there : WalksOn (going frames) (n + 1) lines last = subst (λ (ts : List (List ℕ)). WalksOn (going frames) (n + 1) (map ended ts ++ lines) last) none.0 here in
          let one : n + 1 ≡ n + length (l ∷ ls) = omega (arith, ap length no) in
          let rest_ : SketchWalksOn g (sketches.going p gs) (n + 1) ls (sketches.going None []) = subst (λ (k : List Line). SketchWalksOn g (sketches.going p gs) (n + 1) k (sketches.going None [])) (sym no) (sym (over-ends later.due p gs stands end)) in
          (sketches.going None [], (sketches.going p gs, step_, rest_), subst (λ (k : ℕ). WalksOn (going frames) k lines last) one there)
      | inr still ↦
          let at_next : after ≡ sketching (at_nodes s p gs) frames = is_ ∙ cond-false (is_over later.due) (going frames) (sketching (at_nodes s p gs) frames) still in
          let here = subst (λ (w : Walking). WalksOn w (n + 1) (map ended texts ++ lines) last) at_next more in
          let it = go (nodes_kept (at_nodes s o fs) r later l p gs is due stands still) here in
          (it.0, (sketches.going p gs, step_, it.1), subst (λ (k : ℕ). Ends it.0 frames k lines last) size it.2)
    ]

    by_step : (next_ : SketchWalking) → ((p : Option Opened) (gs : List SketchFrame) → Further p gs) → OnStep g (sketches.going o fs) n l next_ → after ≡ as_sketched next_ (at_nodes s o fs) frames → (w : SketchWalking) × SketchWalksOn g (sketches.going o fs) n (l ∷ ls) w × Ends w frames (n + length (l ∷ ls)) lines last
    by_step (sketches.stopped k v) go step_ is_ =
        (sketches.stopped k v, (sketches.stopped k v, step_, stays g ls k (n + 1) v), stops (map ended texts ++ lines) k (n + 1) (unsupported (why_of v)) after last is_ more)
    by_step (sketches.going p gs) go step_ is_ =
        let stands : StandsAt later.due p gs = due-next g r.due later.due o fs n l p gs is.nodes due step_ in
        on_from p gs (go p gs) step_ stands (is_ ∙ behind_as later.due p gs (at_nodes s o fs) frames stands)

-- LINES OF PRICES

abbrev priced : Asked → List Bool → List PriceList → ℕ → Sketched
priced q exact prices wanted = record { query = q; exact = exact; prices = prices; wanted = wanted; nodes = None }

-- the walk behind the lines of prices
record PricesWalked (q : Asked) (exact : List Bool) (all : List PriceList) (ls : List Line) (last_ : Reading) (frames : List Frame) (n : ℕ) (lines : Lines) (last : Walking) : Type 0 where
  texts : List (List ℕ)
  reading : Reading
  in_step : IsInStep (priced q exact all 0) reading
  leads : Leads reading texts (map (λ l. of_line l) ls) last_
  walks : WalksOn (sketching (priced q exact all 0) frames) n (map ended texts ++ lines) last

prices_walk : (ps : List PriceList) (done all : List PriceList) (texts : List (List ℕ)) (ls : List Line) (q : Asked) (exact : List Bool) (r last_ : Reading) (frames : List Frame) (n m : ℕ) (lines : Lines) (last : Walking)
    → done ++ ps ≡ all → n + length ps ≡ m → IsInStep (priced q exact done (length ps)) r → Leads r texts (map (λ p. of_prices p) ps ++ map (λ l. of_line l) ls) last_ → WalksOn (sketching (priced q exact done (length ps)) frames) n (map ended texts ++ lines) last
    → PricesWalked q exact all ls last_ frames m lines last
prices_walk [] done all texts ls q exact r last_ frames n m lines last whole size is leads walks =
    let same : done ≡ all = sym (append-nil done) ∙ whole in
    let place : n ≡ m = omega (arith, size) in
    record {
      texts = texts;
      reading = r;
      in_step = subst (λ (ps : List PriceList). IsInStep (priced q exact ps 0) r) same is;
      leads = leads;
      walks = subst (λ (k : ℕ). WalksOn (sketching (priced q exact all 0) frames) k (map ended texts ++ lines) last) place (subst (λ (ps : List PriceList). WalksOn (sketching (priced q exact ps 0) frames) n (map ended texts ++ lines) last) same walks);
    }
prices_walk (p ∷ ps) done all [] ls q exact r last_ frames n m lines last whole size is leads walks = absurd leads
prices_walk (p ∷ ps) done all (t ∷ texts) ls q exact r last_ frames n m lines last whole size is (later, e, rest) (after, on, more) =
    let less : length (p ∷ ps) - 1 ≡ length ps = omega arith in
    let s : Sketched = priced q exact done (length (p ∷ ps)) in
    let item : after ≡ sketching (priced q exact (done ++ p ∷ []) (length (p ∷ ps) - 1)) frames = item_on s r later frames n t (of_prices p) after is e on in
    let here : after ≡ sketching (priced q exact (done ++ p ∷ []) (length ps)) frames = item ∙ ap (λ (k : ℕ). sketching (priced q exact (done ++ p ∷ []) k) frames) less in
    let kept : IsInStep (priced q exact (done ++ p ∷ []) (length (p ∷ ps) - 1)) later = prices_kept s r later p is (said_next r later (ended t) (of_prices p) (said_back (step r) t (of_prices p, later) e)) in
    prices_walk ps (done ++ p ∷ []) all texts ls q exact later last_ frames (n + 1) m lines last (append_assoc done (p ∷ []) ps ∙ whole) (omega (arith, size))
    (subst (λ (k : ℕ). IsInStep (priced q exact (done ++ p ∷ []) k) later) less kept) rest (subst (λ (w : Walking). WalksOn w (n + 1) (map ended texts ++ lines) last) here more)

-- ALL LINES

-- a fault of the walk over a sketch, or what goes on after it
abbrev pub SketchCarries : SketchWalked → List Frame → Lines → Walking → Type 0
SketchCarries (trees.fault_at n v) frames lines last = last ≡ stopped n (unsupported (why_of v))
SketchCarries (trees.next_line n) frames lines last = WalksOn (going frames) n lines last

same_end : (next_ : SketchWalking) (s : Sketched) (o : Option Opened) (fs : List SketchFrame) (frames : List Frame) → as_sketched next_ s frames ≡ as_sketched next_ (at_nodes s o fs) frames
same_end (sketches.stopped n v) s o fs frames = refl
same_end (sketches.going None []) s o fs frames = refl
same_end (sketches.going None (f ∷ gs)) s o fs frames = refl
same_end (sketches.going (Some x) gs) s o fs frames = refl

-- a walk over the lines of a tree that has come to this
tree_ends : (walked : SketchWalked) (x : Node) (q : Asked) (exact : List Bool) (prices : List PriceList) (ls : List Line) (n : ℕ) (w : SketchWalking) (frames : List Frame) (lines : Lines) (last : Walking)
    → lines_of x ≡ ls → MayAsk q prices → WalksSketchTree x (setting_of q exact prices) (first_due (sketch_of q.board)) n walked → ComesTo walked w → Ends w frames (n + length ls) lines last → (k : SketchWalked) × BodyWalks q exact prices ls n k × SketchCarries k frames lines last
tree_ends (trees.fault_at m v) x q exact prices ls n w frames lines last written may walks comes ends =
    (trees.fault_at m v, (x, written, inr (may, walks)), subst (λ (k : SketchWalking). Ends k frames (n + length ls) lines last) comes ends)
tree_ends (trees.next_line m) x q exact prices ls n w frames lines last written may walks comes ends =
    let here : WalksOn (going frames) (n + length ls) lines last = subst (λ (k : SketchWalking). Ends k frames (n + length ls) lines last) comes ends in
    let place : n + length ls ≡ m = omega (arith, node-count x (setting_of q exact prices) (first_due (sketch_of q.board)) n m walks, ap length written) in
    (trees.next_line m, (x, written, inr (may, walks)), subst (λ (k : ℕ). WalksOn (going frames) k lines last) place here)

-- the walk behind the lines of prices, at the first node
first_walk : (ls : List Line) (texts : List (List ℕ)) (x : Node) (q : Asked) (exact : List Bool) (prices : List PriceList) (r last_ : Reading) (frames : List Frame) (n : ℕ) (lines : Lines) (last : Walking)
    → lines_of x ≡ ls → IsInStep (priced q exact prices 0) r → Leads r texts (map (λ l. of_line l) ls) last_ → is_over last_.due ≡ true → WalksOn (sketching (priced q exact prices 0) frames) n (map ended texts ++ lines) last
    → (k : SketchWalked) × BodyWalks q exact prices ls n k × SketchCarries k frames lines last
first_walk [] texts (node label marks reason) q exact prices r last_ frames n lines last written is leads over walks = absurd cc
first_walk (l ∷ ls) [] x q exact prices r last_ frames n lines last written is leads over walks = absurd leads
first_walk (l ∷ ls) (t ∷ texts) x q exact prices r last_ frames n lines last written is (later, e, rest) over (after, on, more) =
    by_ask (item_on s r later frames n t (of_line l) after is e on)
  where
    s : Sketched
    s = priced q exact prices 0

    first : Sketched
    first = at_nodes s None (frames_in s None)

    due : next r.due (of_line l) ≡ Some later.due
    due = said_next r later (ended t) (of_line l) (said_back (step r) t (of_line l, later) e)

    begins : IsInStep first r
    begins = record { prices = is.prices; wanted = is.wanted; nodes = stands_here s r later l is due; still = is.still }

    by_ask : OnNodes None s frames n l after → (k : SketchWalked) × BodyWalks q exact prices (l ∷ ls) n k × SketchCarries k frames lines last
    by_ask (inl refused) =
        (trees.fault_at n trees.unsupported, (x, written, inl (refused.0, refl)), stops (map ended texts ++ lines) n (n + 1) (unsupported why.Rule) after last refused.1 more)
    by_ask (inr (may, (next_, step_, is_))) =
        let steps : Steps (sketches.going None (frames_in s None)) first frames n l after = (next_, step_, is_ ∙ same_end next_ s None (frames_in s None) frames) in
        let says = says_item first r later (ended t) (of_line l) begins (said_back (step r) t (of_line l, later) e) in
        let line_ : CertOnLine (sketching first frames) n (ended t) after = subst (λ (o : Option Item). OnItem o first frames n after) (sym says) steps in
        let it = nodes_walk (t ∷ texts) (l ∷ ls) s None (frames_in s None) r last_ frames n lines last begins (later, e, rest) over (after, line_, more) in
        let tree = tree-walk x (setting_of q exact prices) (sketch_of q.board) n it.0 (subst (λ (k : List Line). SketchWalksOn (setting_of q exact prices) (begun (sketch_of q.board)) n k it.0) (sym written) it.1) in
        tree_ends tree.0 x q exact prices (l ∷ ls) n it.0 frames lines last written may tree.1 tree.2 it.2

-- all lines of a sketch, behind the first
pub sketch_walk : (b : Body) (q : Asked) (n : ℕ) (texts : List (List ℕ)) (frames : List Frame) (lines : Lines) (last : Walking) → AreTextsOf texts b → units_of b ≤ most_units → WalksOn (sketching (first_sketched q (head_of b)) frames) (n + 1) (map ended texts ++ lines) last → (k : SketchWalked) × WalksSketch b q n k × SketchCarries k frames lines last
sketch_walk b q n texts frames lines last are few walks =
    let read = sketch_reads b texts 0 are (omega arith) in
    let exact : List Bool = files_of b.files in
    let place : n + 1 + length b.prices ≡ n + 1 + length b.prices = refl in
    let p = prices_walk b.prices [] b.prices texts b.lines q exact read.0.first _ frames (n + 1) (n + 1 + length b.prices) lines last refl place (first_in_step q 0 (head_of b) read.0.first read.0.starts) read.0.leads walks in
    first_walk b.lines p.texts are.tree.tree q exact b.prices p.reading _ frames (n + 1 + length b.prices) lines last are.tree.written p.in_step p.leads read.1 p.walks
