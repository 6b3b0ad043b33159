-- The lines of a sketch in memory, one after another.
use Rattle.std.proofs.Common.{◌≡◌, ℕ, ◌+◌, ◌&&◌, true, List, [], ◌∷◌, ◌++◌, length, map, refl, sym, ◌∙◌, subst}
use Rattle.std.specs.Prelude.{Option, Some, None}
use Rattle.std.specs.List.{list_all}
use Rattle.capture_prices.specs.Prices.{PriceList}
use Rattle.past_sketches.specs.Figures.{Sketch}
use Rattle.sketch_text.specs.Trees.{Line}
use Rattle.sketch_text.specs.Heads.{is_head}
use Rattle.sketch_body.specs.Bodies.{Body, Item, head_of, items_of, of_line, of_prices}
use Rattle.sketch_body.specs.Due.{Due, next}
use Rattle.sketch_body.specs.Texts.{is_item}
use Rattle.sketch_body.specs.Whole.{is_body, runs_out}
use Rattle.std.proofs.lemmas.Bool.{and_parts}
use Rattle.sketch_checker.specs.Proofs.{Setting}
use Rattle.sketch_checker.specs.DueNodes.{first_due}
use Rattle.sketch_checker.specs.LineWalk.{OnLine, Walking, WalksOn, going, stopped}
use Rattle.sketch_checker.specs.Placed.{may_come}
use Rattle.sketch_checker.specs.TreeWalk.{Wrong}
use Rattle.sketch_checker.specs.Walks.{Frame, Opened}
use Rattle.sketch_checker.proofs.Settling.{stays}
use Rattle.cert_checker.specs.SketchLines.{AreDue, StandsAt}
use Rattle.cert_checker.proofs.SketchPlaces.{due-comes, due-next, over-ends, stands-first}
use Rattle.sketch_body.proofs.Readings.{on_parts}

-- what is due next, and after it
record IsDueLine (o : Option Opened) (fs : List Frame) (l : Line) (rest : List Line) : Type 0 where
  now : Due
  later : Due
  stands : StandsAt now o fs
  on : next now (of_line l) ≡ Some later
  out : runs_out later (map (λ k. of_line k) rest) ≡ true

due-line : (o : Option Opened) (fs : List Frame) (l : Line) (rest : List Line) → AreDue o fs (l ∷ rest) → IsDueLine o fs l rest
due-line o fs l rest (d, stands, out) =
    let it = on_parts (next d (of_line l)) (λ e. runs_out e (map (λ k. of_line k) rest)) out in
    record { now = d; later = it.0; stands = stands; on = it.1; out = it.2 }

pub line-comes : (o : Option Opened) (fs : List Frame) (l : Line) (rest : List Line) → AreDue o fs (l ∷ rest) → may_come o fs l ≡ true
line-comes o fs l rest are = let is = due-line o fs l rest are in due-comes is.now is.later o fs l is.stands is.on

pub lines-next : (g : Setting) (o : Option Opened) (fs : List Frame) (n : ℕ) (l : Line) (rest : List Line) (p : Option Opened) (gs : List Frame) → AreDue o fs (l ∷ rest) → OnLine g o fs n l (going p gs) → AreDue p gs rest
lines-next g o fs n l rest p gs are on = let is = due-line o fs l rest are in (is.later, due-next g is.now is.later o fs n l p gs is.stands is.on on, is.out)

lines-end : (o : Option Opened) (fs : List Frame) → AreDue o fs [] → going o fs ≡ going None []
lines-end o fs (d, stands, over) = over-ends d o fs stands over

-- behind the lines of prices
prices-out : (ps : List PriceList) (P : ℕ) (nodes : List ℕ) (rest : List Item) → runs_out (record { prices = P; wanted = length ps; marks = 0; nodes = nodes }) (map (λ p. of_prices p) ps ++ rest) ≡ runs_out (record { prices = P; wanted = 0; marks = 0; nodes = nodes }) rest
prices-out [] P nodes rest = refl
prices-out (p ∷ ps) P nodes rest = prices-out ps P nodes rest

-- all lines of a sketch are due before the first node
pub body-due : (b : Body) (S : Sketch) → is_body b ≡ true → AreDue None (record { line = 0; announced = 1; due = first_due S ∷ [] } ∷ []) b.lines
body-due b S known =
    let P : ℕ = length b.prices in
    let rest = (and_parts (is_head (head_of b)) (list_all (is_item P) (items_of b) && runs_out (record { prices = P; wanted = P; marks = 0; nodes = 1 ∷ [] }) (items_of b)) known).1 in
    let out = (and_parts (list_all (is_item P) (items_of b)) (runs_out (record { prices = P; wanted = P; marks = 0; nodes = 1 ∷ [] }) (items_of b)) rest).1 in
    (record { prices = P; wanted = 0; marks = 0; nodes = 1 ∷ [] }, stands-first P S, sym (prices-out b.prices P (1 ∷ []) (map (λ l. of_line l) b.lines)) ∙ out)

-- LINES IN MEMORY

-- what the walk over these lines comes to is what it comes to over all
abbrev pub LeadsOn : Setting → Walking → ℕ → List Line → Walking → ℕ → List Line → Type 0
LeadsOn g w n lines start first all = (last : Walking) → WalksOn g w n lines last → WalksOn g start first all last

pub leads-next : (g : Setting) (start next_ : Walking) (first n : ℕ) (lines rest all : List Line) (o : Option Opened) (fs : List Frame) (l : Line) → lines ≡ l ∷ rest → OnLine g o fs n l next_ → LeadsOn g (going o fs) n lines start first all → LeadsOn g next_ (n + 1) rest start first all
leads-next g start next_ first n lines rest all o fs l e on leads last walks = leads last (subst (λ (ls : List Line). WalksOn g (going o fs) n ls last) (sym e) (next_, on, walks))

pub leads-stop : (g : Setting) (start : Walking) (first n m : ℕ) (w : Wrong) (lines rest all : List Line) (o : Option Opened) (fs : List Frame) (l : Line) → lines ≡ l ∷ rest → OnLine g o fs n l (stopped m w) → LeadsOn g (going o fs) n lines start first all → WalksOn g start first all (stopped m w)
leads-stop g start first n m w lines rest all o fs l e on leads = leads-next g start (stopped m w) first n lines rest all o fs l e on leads (stopped m w) (stays g rest m (n + 1) w)

-- all lines were taken
pub leads-end : (g : Setting) (start : Walking) (first n : ℕ) (lines all : List Line) (o : Option Opened) (fs : List Frame) → lines ≡ [] → AreDue o fs lines → LeadsOn g (going o fs) n lines start first all → WalksOn g start first all (going None [])
leads-end g start first n lines all o fs e due leads =
    let over = lines-end o fs (subst (AreDue o fs) e due) in
    leads (going None []) (subst (λ (ls : List Line). WalksOn g (going o fs) n ls (going None [])) (sym e) (sym over))
