-- Trees and lines against what is due.
use Rattle.std.proofs.Common.{◌≡◌, ℕ, zero, suc, ◌+◌, ◌≤◌, ◌⊎◌, inl, inr, Bool, true, false, cond, List, [], ◌∷◌, ◌++◌, length, take, map, replicate, refl, sym, ap, ◌∙◌, subst, arith, append_assoc, length-append, add-zero}
use Rattle.std.proofs.lemmas.List.{append-nil, length-map}
use Rattle.std.specs.Prelude.{Option, Some, None, codes}
use Rattle.std.specs.Option.{option_and_then, option_map}
use Rattle.std.proofs.lemmas.Bool.{cases_Bool, cond-false, cond-true}
use Rattle.std.proofs.lemmas.Option.{option_and_then_some, same_Some}
use Rattle.board_base.proofs.TextLemmas.{mapped_some}
use Rattle.sketch_text.specs.Heads.{Head}
use Rattle.sketch_body.specs.Bodies.{AreTextsOf, Body, Item, head_of, items_of, most_units, units_of}
use Rattle.sketch_body.specs.Due.{Leads, Reading, is_over, start}
use Rattle.sketch_body.specs.Due as sketches
use Rattle.sketch_body.specs.Ends.{EndsAs, ReadsTo, ended as end_of}
use Rattle.sketch_body.specs.Whole.{first_due}
use Rattle.sketch_body.proofs.Readings.{IsGoing, going_ends, going_on, going_starts, start_parts, stops as over_stops, whole_law}
use Rattle.cert_text.specs.Tree.{Tree, Forest, rule, back, expand, sketch, none, more, count, units_each, units_in, with_last}
use Rattle.query_base.specs.declared.rule_lines.RuleLine.TheVariants.{Kings}
use Rattle.cert_text.specs.declared.reasons.Reason.TheVariants.{Line}
use Rattle.board_base.specs.Texts.{unmove_from}
use Rattle.board_base.specs.declared.unmoves.Unmove.{Unmove}
use Rattle.fen_text.specs.Parts.{parted}
use Rattle.cert_text.specs.Lines.{ended, said}
use Rattle.cert_text.specs.NodeLines.{kid_body, body_at}
use Rattle.cert_text.specs.Certificate.{Lines, body_of, AreBelow, AreKids}
use Rattle.cert_text.specs.Due.{Due, closed, is_done, kid_step, nodes_due, none_left, on_step, put_due, refused, sketch_due, step}
use Rattle.cert_text.specs.declared.node_lines.BodyLine.{BodyLine}
use Rattle.cert_text.specs.declared.node_lines.BodyLine.TheVariants.{Rule, Back, Expand, Sketch}
use Rattle.cert_text.specs.Reading.{HasRoom}
use Rattle.cert_text.proofs.Fitting.{kid_room}
use Rattle.cert_text.proofs.SpelledLines.{said_back, said_read}

-- where nothing is due at the greatest depth
pub nothing_due : (units : ℕ) (due : List ℕ) (n : ℕ) (lines : Lines) → refused (nodes_due units (0 ∷ due)) n lines ≡ refused (nodes_due units due) n lines
nothing_due units due n [] = refl
nothing_due units due n (line ∷ lines) = refl

-- one line that goes on
pub goes_on : (m n units : ℕ) (due : List ℕ) (line : List ℕ) (lines : Lines) (label : Unmove) (body : BodyLine) (d : Due) → said (kid_body (suc (length due))) line ≡ Some (label, body) → put_due units body (m ∷ due) ≡ Some d → refused (nodes_due units (suc m ∷ due)) n (line ∷ lines) ≡ refused d (n + 1) lines
goes_on m n units due line lines label body d here put =
    ap (λ (o : Option (Unmove × BodyLine)). on_step n (option_and_then (λ kid. put_due units kid.1 (m ∷ due)) o) (λ more. refused more (n + 1) lines)) here
    ∙ ap (λ (o : Option Due). on_step n o (λ more. refused more (n + 1) lines)) put

-- sketches

wanted : (P : ℕ) → is_over (first_due P) ≡ false
wanted zero = refl
wanted (suc P) = refl

-- no sketch is at its end before its first line
pub unbegun : (units : ℕ) (h : Head) (first : Reading) → start units h ≡ Some first → is_over first.due ≡ false
unbegun units h first e =
    let s = start_parts units h first e in
    ap is_over s.due_is ∙ wanted h.prices

open_still : (r : Reading) (text : List ℕ) (i : Item) (s : Reading) → sketches.step r text ≡ Some (i, s) → is_over r.due ≡ false
open_still r text i s e = elim (cases_Bool (is_over r.due)) [
  | inl over ↦ let none = over_stops r text over in absurd cc
  | inr still ↦ still
]

pub closed_open : (r : Reading) (due : List ℕ) → is_over r.due ≡ false → closed r due ≡ sketch_due r due
closed_open r due still = cond-false (is_over r.due) (nodes_due r.units due) (sketch_due r due) still

closed_over : (r : Reading) (due : List ℕ) → is_over r.due ≡ true → closed r due ≡ nodes_due r.units due
closed_over r due over = cond-true (is_over r.due) (nodes_due r.units due) (sketch_due r due) over

-- one line of a sketch
sketch_on : (r : Reading) (due : List ℕ) (n : ℕ) (text : List ℕ) (i : Item) (s : Reading) (lines : Lines) → sketches.step r text ≡ Some (i, s) → refused (sketch_due r due) n (ended text ∷ lines) ≡ refused (closed s due) (n + 1) lines
sketch_on r due n text i s lines e =
    ap (λ (o : Option (Item × Reading)). on_step n (option_map (λ p. closed p.1 due) o) (λ more. refused more (n + 1) lines)) (said_back (sketches.step r) text (i, s) e)

-- lines of a sketch
pub sketch_goes : (texts : List (List ℕ)) (items : List Item) (r last : Reading) (due : List ℕ) (n : ℕ) (lines : Lines) → Leads r texts items last → refused (closed r due) n (map ended texts ++ lines) ≡ refused (closed last due) (n + length texts) lines
sketch_goes [] [] r last due n lines leads = ap (λ (t : Reading). refused (closed t due) n lines) leads ∙ ap (λ (k : ℕ). refused (closed last due) k lines) (sym (add-zero n))
sketch_goes [] (i ∷ items) r last due n lines leads = absurd leads
sketch_goes (text ∷ texts) [] r last due n lines leads = absurd leads
sketch_goes (text ∷ texts) (i ∷ items) r last due n lines (s, e, rest) =
    let size : n + 1 + length texts ≡ n + suc (length texts) = omega arith in
    ap (λ (d : Due). refused d n (ended text ∷ (map ended texts ++ lines))) (closed_open r due (open_still r text i s e))
    ∙ sketch_on r due n text i s (map ended texts ++ lines) e ∙ sketch_goes texts items s last due (n + 1) lines rest ∙ ap (λ (k : ℕ). refused (closed last due) k lines) size

sketch_runs : (texts : List (List ℕ)) (items : List Item) (r last : Reading) (due : List ℕ) (n : ℕ) (lines : Lines) → Leads r texts items last → is_over last.due ≡ true → refused (closed r due) n (map ended texts ++ lines) ≡ refused (nodes_due last.units due) (n + length texts) lines
sketch_runs texts items r last due n lines leads over = sketch_goes texts items r last due n lines leads ∙ ap (λ (d : Due). refused d (n + length texts) lines) (closed_over last due over)

-- a sketch of a tree is read to its end
pub sketch_reads : (b : Body) (texts : List (List ℕ)) (units : ℕ) → AreTextsOf texts b → units + units_of b ≤ most_units → ReadsTo units (head_of b) texts (items_of b) (end_of units b) × (is_over (end_of units b).due ≡ true)
sketch_reads b texts units are few =
    (whole_law units (head_of b) texts (items_of b) (end_of units b)).1 (b, record { head = refl; items_are = refl; texts_are = are; last_is = refl; few = few })

nothing_below : (units : ℕ) (due : List ℕ) (n : ℕ) (front lines : Lines) (d : Due) → front ≡ [] → nodes_due units due ≡ d → refused d n (front ++ lines) ≡ refused (nodes_due (units + 0) due) (n + length front) lines
nothing_below units due n front lines d empty same =
    ap (λ (e : Due). refused e n (front ++ lines)) (sym same) ∙ ap (λ (l : Lines). refused (nodes_due units due) n (l ++ lines)) empty
    ∙ ap (λ (u : ℕ). refused (nodes_due u due) n lines) (sym (add-zero units)) ∙ ap (λ (k : ℕ). refused (nodes_due (units + 0) due) k lines) (sym (add-zero n))
    ∙ ap (λ (l : Lines). refused (nodes_due (units + 0) due) (n + length l) lines) (sym empty)

-- trees

-- their first lines go on
pub put_some : (t : Tree) (units depth : ℕ) (due : List ℕ) (front : Lines) → AreBelow t depth front → units + units_in t ≤ most_units → (d : Due) × (put_due units (body_of t) due ≡ Some d)
put_some (rule r) units depth due front below few = (nodes_due units due, refl)
put_some (back k) units depth due front below few = (nodes_due units due, refl)
put_some (expand kids) units depth due front below few = (nodes_due units (count kids ∷ due), refl)
put_some (sketch b) units depth due front (texts, e, are) few =
    let reads = (sketch_reads b texts units are few).0 in
    (sketch_due reads.first due, ap (option_map (λ (r : Reading). sketch_due r due)) reads.starts)

mutual
  -- the lines below a node's own leave what was due beside it
  pub below_runs : (t : Tree) (units : ℕ) (due : List ℕ) (n : ℕ) (front lines : Lines) (d : Due) → AreBelow t (length due) front → units + units_in t ≤ most_units → put_due units (body_of t) due ≡ Some d → refused d n (front ++ lines) ≡ refused (nodes_due (units + units_in t) due) (n + length front) lines
  below_runs (rule r) units due n front lines d below few put = nothing_below units due n front lines d below (same_Some _ _ put)
  below_runs (back k) units due n front lines d below few put = nothing_below units due n front lines d below (same_Some _ _ put)
  below_runs (expand kids) units due n front lines d below few put =
      let same : nodes_due units (count kids ∷ due) ≡ d = same_Some _ _ put in
      ap (λ (e : Due). refused e n (front ++ lines)) (sym same)
      ∙ kids_run kids (count kids) 0 units due n front lines (omega arith) few below ∙ nothing_due (units + units_each kids) due (n + length front) lines
  below_runs (sketch b) units due n front lines d (texts, e, are) few put =
      let m = mapped_some (λ (r : Reading). sketch_due r due) (start units (head_of b)) d put in
      let read = sketch_reads b texts units are few in
      let same : m.0 ≡ read.0.first = same_Some m.0 read.0.first (sym m.1 ∙ read.0.starts) in
      let size : length texts ≡ length front = sym (length-map texts ended) ∙ ap length (sym e) in
      let begun : sketch_due read.0.first due ≡ closed read.0.first due = sym (closed_open read.0.first due (unbegun units (head_of b) read.0.first read.0.starts)) in
      ap (λ (x : Due). refused x n (front ++ lines)) (sym m.2 ∙ ap (λ (r : Reading). sketch_due r due) same ∙ begun)
      ∙ ap (λ (l : Lines). refused (closed read.0.first due) n (l ++ lines)) e
      ∙ sketch_runs texts (items_of b) read.0.first (end_of units b) due n lines read.0.leads read.1
      ∙ ap (λ (k : ℕ). refused (nodes_due (units + units_of b) due) (n + k) lines) size

  -- the lines of children leave those that are due after them
  pub kids_run : (f : Forest) (c m units : ℕ) (due : List ℕ) (n : ℕ) (front lines : Lines) → c ≡ count f + m → units + units_each f ≤ most_units → AreKids f (suc (length due)) front → refused (nodes_due units (c ∷ due)) n (front ++ lines) ≡ refused (nodes_due (units + units_each f) (m ∷ due)) (n + length front) lines
  kids_run none c m units due n front lines e few kids =
      let same : c ≡ m = omega arith in
      ap (λ (l : Lines). refused (nodes_due units (c ∷ due)) n (l ++ lines)) kids ∙ ap (λ (k : ℕ). refused (nodes_due units (k ∷ due)) n lines) same
      ∙ ap (λ (u : ℕ). refused (nodes_due u (m ∷ due)) n lines) (sym (add-zero units)) ∙ ap (λ (k : ℕ). refused (nodes_due (units + 0) (m ∷ due)) k lines) (sym (add-zero n))
      ∙ ap (λ (l : Lines). refused (nodes_due (units + 0) (m ∷ due)) (n + length l) lines) (sym kids)
  kids_run (more label t rest) zero m units due n front lines e few kids = absurd (omega arith)
  kids_run (more label t rest) (suc c) m units due n front lines e few kids =
      let size : n + 1 + length kids.1 + length kids.2 ≡ n + length front = omega (arith, ap length kids.3, length-append kids.1 kids.2) in
      let sum : units + units_in t + units_each rest ≡ units + (units_in t + units_each rest) = omega arith in
      let own : units + units_in t ≤ most_units = omega arith in
      let put = put_some t units (suc (length due)) (c ∷ due) kids.1 kids.5 own in
      ap (λ (l : Lines). refused (nodes_due units (suc c ∷ due)) n (l ++ lines)) kids.3 ∙ goes_on c n units due kids.0 ((kids.1 ++ kids.2) ++ lines) label (body_of t) put.0 kids.4 put.1
      ∙ ap (refused put.0 (n + 1)) (append_assoc kids.1 kids.2 lines)
      ∙ below_runs t units (c ∷ due) (n + 1) kids.1 (kids.2 ++ lines) put.0 kids.5 own put.1
      ∙ kids_run rest c m (units + units_in t) due (n + 1 + length kids.1) kids.2 lines (omega arith) (omega arith) kids.6
      ∙ ap (λ (u : ℕ). refused (nodes_due u (m ∷ due)) (n + 1 + length kids.1 + length kids.2) lines) sum
      ∙ ap (λ (k : ℕ). refused (nodes_due (units + (units_in t + units_each rest)) (m ∷ due)) k lines) size

-- one more child at the end
pub kids_more : (f : Forest) (depth : ℕ) (label : Unmove) (t : Tree) (front : Lines) (line : List ℕ) (below : Lines) → AreKids f depth front → said (kid_body depth) line ≡ Some (label, body_of t) → AreBelow t depth below → AreKids (with_last f label t) depth (front ++ line ∷ below)
kids_more none depth label t front line below kids here under = (line, below, [], ap (λ (l : Lines). l ++ line ∷ below) kids ∙ ap (λ (l : Lines). line ∷ l) (sym (append-nil below)), here, under, refl)
kids_more (more l t' rest) depth label t front line below kids here under =
    (kids.0, kids.1, kids.2 ++ line ∷ below, ap (λ (l : Lines). l ++ line ∷ below) kids.3 ∙ ap (λ (l : Lines). kids.0 ∷ l) (append_assoc kids.1 kids.2 (line ∷ below)), kids.4, kids.5, kids_more rest depth label t kids.2 line below kids.6 here under)

-- a line that goes on wherever a child is due
abbrev pub sure : List ℕ
sure = ended (codes "a1a1 rule kings")

-- the unmove a1a1
abbrev sure_unmove : Unmove
sure_unmove = record { mv = record { from = 0; to = 0; promo = None }; captured = None; ep = false }

sure_kid : (depth : ℕ) → said (kid_body depth) sure ≡ Some (sure_unmove, Rule (Line Kings))
unfolding said kid_body parted unmove_from body_at
sure_kid depth = refl

-- lines that are all that is due
abbrev pub closing : List ℕ → Lines
closing [] = []
closing (c ∷ due) = replicate c sure ++ closing due

same_runs : (c units : ℕ) (due : List ℕ) (n : ℕ) (lines : Lines) → refused (nodes_due units (c ∷ due)) n (replicate c sure ++ lines) ≡ refused (nodes_due units due) (n + c) lines
same_runs zero units due n lines = nothing_due units due n lines ∙ ap (λ (k : ℕ). refused (nodes_due units due) k lines) (sym (add-zero n))
same_runs (suc c) units due n lines =
    let size : n + 1 + c ≡ n + suc c = omega arith in
    goes_on c n units due sure (replicate c sure ++ lines) sure_unmove (Rule (Line Kings)) (nodes_due units (c ∷ due)) (sure_kid (suc (length due))) refl ∙ same_runs c units due (n + 1) lines ∙ ap (λ (k : ℕ). refused (nodes_due units due) k lines) size

closes_nodes : (units : ℕ) (due : List ℕ) (n : ℕ) → refused (nodes_due units due) n (closing due) ≡ None
closes_nodes units [] n = refl
closes_nodes units (c ∷ due) n = same_runs c units due n (closing due) ∙ closes_nodes units due (n + c)

-- what may be due: a sketch goes on
abbrev pub IsDue : Due → Type 0
IsDue (nodes_due units due) = units ≤ most_units
IsDue (sketch_due r due) = IsGoing r × (is_over r.due ≡ false)

-- some lines are all that is due
pub closes : (d : Due) (n : ℕ) → IsDue d → (lines : Lines) × (refused d n lines ≡ None)
closes (nodes_due units due) n is = (closing due, closes_nodes units due n)
closes (sketch_due r due) n is =
    let e = going_ends r is.0 in
    let texts : List (List ℕ) = e.0 in (
      map ended texts ++ closing due,
      ap (λ (d : Due). refused d n (map ended texts ++ closing due)) (sym (closed_open r due is.1)) ∙ sketch_runs texts e.1 r e.2 due n (closing due) e.3.leads e.3.over ∙ closes_nodes e.2.units due (n + length texts),
    )

closed_due : (r : Reading) (due : List ℕ) → IsGoing r → IsDue (closed r due)
closed_due r due going = elim (cases_Bool (is_over r.due)) [
  | inl over ↦ subst IsDue (sym (closed_over r due over)) going.few
  | inr still ↦ subst IsDue (sym (closed_open r due still)) (going, still)
]

-- a sketch that the body begins has at most 64 lines of prices
abbrev pub IsLow : BodyLine → Type 0
IsLow (Rule r) = Unit {0}
IsLow (Back k) = Unit {0}
IsLow (Expand n) = Unit {0}
IsLow (Sketch h) = h.prices ≤ 64

pub low_body : (depth : ℕ) (body : BodyLine) → HasRoom depth body → IsLow body
low_body depth (Rule r) room = tt
low_body depth (Back k) room = tt
low_body depth (Expand n) room = tt
low_body depth (Sketch h) room = room

pub put_is : (units : ℕ) (body : BodyLine) (due : List ℕ) (d : Due) → units ≤ most_units → IsLow body → put_due units body due ≡ Some d → IsDue d
put_is units (Rule r) due d few low put = subst IsDue (same_Some _ d put) few
put_is units (Back k) due d few low put = subst IsDue (same_Some _ d put) few
put_is units (Expand n) due d few low put = subst IsDue (same_Some _ d put) few
put_is units (Sketch h) due d few low put =
    let m = mapped_some (λ (r : Reading). sketch_due r due) (start units h) d put in
    subst IsDue m.2 (going_starts units h m.0 low m.1, unbegun units h m.0 m.1)

kid_is : (units : ℕ) (due : List ℕ) (line : List ℕ) (d : Due) → units ≤ most_units → kid_step units due line ≡ Some d → IsDue d
kid_is units [] line d few e = absurd cc
kid_is units (zero ∷ due) line d few e = kid_is units due line d few e
kid_is units (suc n ∷ due) line d few e =
    option_and_then_some (λ (kid : Unmove × BodyLine). put_due units kid.1 (n ∷ due)) (said (kid_body (suc (length due))) line) d e (λ kid here put.
    put_is units kid.1 (n ∷ due) d few (low_body (suc (length due)) kid.1 (kid_room (suc (length due)) line kid here)) put)

step_is : (d next : Due) (line : List ℕ) → IsDue d → step d line ≡ Some next → IsDue next
step_is (nodes_due units due) next line is e = kid_is units due line next is e
step_is (sketch_due r due) next line is e =
    let m = mapped_some (λ (p : Item × Reading). closed p.1 due) (said (sketches.step r) line) next e in
    let s = said_read (sketches.step r) line m.0 m.1 in
    subst IsDue m.2 (closed_due m.0.1 due (going_on r s.text m.0.0 m.0.1 is.0 s.stands))

-- trees for all that is due

abbrev pub Fills : ℕ → List ℕ → Lines → Type 0
Fills units [] lines = (lines ≡ []) × (units ≤ most_units)
Fills units (c ∷ due) lines =
    (f : Forest) × (front : Lines) × (others : Lines) × (count f ≡ c) × (lines ≡ front ++ others) × AreKids f (suc (length due)) front × Fills (units + units_each f) due others

-- the rest of a sketch, and trees
pub record EndsSketch (r : Reading) (due : List ℕ) (lines : Lines) : Type 0 where
  pub texts : List (List ℕ)
  pub items : List Item
  pub last : Reading
  pub others : Lines
  pub parts : lines ≡ map ended texts ++ others
  pub leads : Leads r texts items last
  pub over : is_over last.due ≡ true
  pub fills : Fills last.units due others

abbrev pub FillsDue : Due → Lines → Type 0
FillsDue (nodes_due units due) lines = Fills units due lines
FillsDue (sketch_due r due) lines = EndsSketch r due lines

fills_none : (units : ℕ) (due : List ℕ) → units ≤ most_units → none_left due ≡ true → Fills units due []
fills_none units [] few e = (refl, few)
fills_none units (zero ∷ due) few e = (none, [], [], refl, refl, refl, fills_none (units + 0) due (omega arith) e)
fills_none units (suc c ∷ due) few e = absurd cc

none_done : (d : Due) → IsDue d → is_done d ≡ true → FillsDue d []
none_done (nodes_due units due) is e = fills_none units due is e
none_done (sketch_due r due) is e = absurd cc

sum : (units a b : ℕ) (due : List ℕ) (lines : Lines) → Fills (units + a + b) due lines → Fills (units + (a + b)) due lines
sum units a b due lines fills = let same : units + a + b ≡ units + (a + b) = omega arith in subst (λ (u : ℕ). Fills u due lines) same fills

no_more : (units b : ℕ) (due : List ℕ) (lines : Lines) → Fills (units + b) due lines → Fills (units + (0 + b)) due lines
no_more units b due lines fills = let same : units + b ≡ units + (0 + b) = omega arith in subst (λ (u : ℕ). Fills u due lines) same fills

fills_put : (body : BodyLine) (units c : ℕ) (due : List ℕ) (line : List ℕ) (lines : Lines) (label : Unmove) (d : Due) → said (kid_body (suc (length due))) line ≡ Some (label, body) → put_due units body (c ∷ due) ≡ Some d → FillsDue d lines → Fills units (suc c ∷ due) (line ∷ lines)
fills_put (Rule r) units c due line lines label d here put fills =
    let g : Fills units (c ∷ due) lines = subst (λ (x : Due). FillsDue x lines) (sym (same_Some (nodes_due units (c ∷ due)) d put)) fills in
    let size = g.3 in
    (more label (rule r) g.0, line ∷ g.1, g.2, omega arith, ap (λ (l : Lines). line ∷ l) g.4, (line, [], g.1, refl, here, refl, g.5), no_more units (units_each g.0) due g.2 g.6)
fills_put (Back k) units c due line lines label d here put fills =
    let g : Fills units (c ∷ due) lines = subst (λ (x : Due). FillsDue x lines) (sym (same_Some (nodes_due units (c ∷ due)) d put)) fills in
    let size = g.3 in
    (more label (back k) g.0, line ∷ g.1, g.2, omega arith, ap (λ (l : Lines). line ∷ l) g.4, (line, [], g.1, refl, here, refl, g.5), no_more units (units_each g.0) due g.2 g.6)
fills_put (Expand k) units c due line lines label d here put fills =
    let g : Fills units (k ∷ c ∷ due) lines = subst (λ (x : Due). FillsDue x lines) (sym (same_Some (nodes_due units (k ∷ c ∷ due)) d put)) fills in
    let h = g.6 in
    let size = h.3 in (
      more label (expand g.0) h.0,
      line ∷ (g.1 ++ h.1),
      h.2,
      omega arith,
      ap (λ (l : Lines). line ∷ l) (g.4 ∙ ap (λ (l : Lines). g.1 ++ l) h.4 ∙ sym (append_assoc g.1 h.1 h.2)),
      (line, g.1, h.1, refl, here ∙ ap (λ (n : ℕ). Some (label, Expand n)) (sym g.3), g.5, h.5),
      sum units (units_each g.0) (units_each h.0) due h.2 h.6,
    )
fills_put (Sketch head) units c due line lines label d here put fills =
    let m = mapped_some (λ (r : Reading). sketch_due r (c ∷ due)) (start units head) d put in
    let e : EndsSketch m.0 (c ∷ due) lines = subst (λ (x : Due). FillsDue x lines) (sym m.2) fills in
    let found = (whole_law units head e.texts e.items e.last).0 (record { first = m.0; starts = m.1; leads = e.leads }, e.over) in
    let b : Body = found.0 in
    let is : EndsAs units head e.texts e.items e.last b = found.1 in
    let g : Fills e.last.units (c ∷ due) e.others = e.fills in
    let units_are : e.last.units ≡ units + units_of b = ap (λ (r : Reading). r.units) is.last_is in
    let size = g.3 in (
      more label (sketch b) g.0,
      line ∷ (map ended e.texts ++ g.1),
      g.2,
      omega arith,
      ap (λ (l : Lines). line ∷ l) (e.parts ∙ ap (λ (l : Lines). map ended e.texts ++ l) g.4 ∙ sym (append_assoc (map ended e.texts) g.1 g.2)),
      (line, map ended e.texts, g.1, refl, here ∙ ap (λ (h : Head). Some (label, Sketch h)) (sym is.head), (e.texts, refl, is.texts_are), g.5),
      sum units (units_of b) (units_each g.0) due g.2 (subst (λ (u : ℕ). Fills (u + units_each g.0) due g.2) units_are g.6),
    )

fills_kid : (units : ℕ) (due : List ℕ) (next : Due) (line : List ℕ) (lines : Lines) → kid_step units due line ≡ Some next → FillsDue next lines → Fills units due (line ∷ lines)
fills_kid units [] next line lines e fills = absurd cc
fills_kid units (zero ∷ due) next line lines e fills =
    let same : units ≡ units + 0 = omega arith in
    (none, [], line ∷ lines, refl, refl, refl, subst (λ (u : ℕ). Fills u due (line ∷ lines)) same (fills_kid units due next line lines e fills))
fills_kid units (suc c ∷ due) next line lines e fills =
    option_and_then_some (λ (kid : Unmove × BodyLine). put_due units kid.1 (c ∷ due)) (said (kid_body (suc (length due))) line) next e (λ kid here put.
    fills_put kid.1 units c due line lines kid.0 next here put fills)

fills_closed : (r : Reading) (due : List ℕ) (text : List ℕ) (i : Item) (s : Reading) (lines : Lines) → sketches.step r text ≡ Some (i, s) → FillsDue (closed s due) lines → EndsSketch r due (ended text ∷ lines)
fills_closed r due text i s lines e fills = elim (cases_Bool (is_over s.due)) [
  | inl over ↦
      let g : Fills s.units due lines = subst (λ (d : Due). FillsDue d lines) (closed_over s due over) fills in
      record { texts = text ∷ []; items = i ∷ []; last = s; others = lines; parts = refl; leads = (s, e, refl); over = over; fills = g }
  | inr still ↦
      let g : EndsSketch s due lines = subst (λ (d : Due). FillsDue d lines) (closed_open s due still) fills in
      record { texts = text ∷ g.texts; items = i ∷ g.items; last = g.last; others = g.others; parts = ap (λ (l : Lines). ended text ∷ l) g.parts; leads = (s, e, g.leads); over = g.over; fills = g.fills }
]

fills_step : (d next : Due) (line : List ℕ) (lines : Lines) → step d line ≡ Some next → FillsDue next lines → FillsDue d (line ∷ lines)
fills_step (nodes_due units due) next line lines e fills = fills_kid units due next line lines e fills
fills_step (sketch_due r due) next line lines e fills =
    let m = mapped_some (λ (p : Item × Reading). closed p.1 due) (said (sketches.step r) line) next e in
    let s = said_read (sketches.step r) line m.0 m.1 in
    let g : EndsSketch r due (ended s.text ∷ lines) = fills_closed r due s.text m.0.0 m.0.1 lines s.stands (subst (λ (x : Due). FillsDue x lines) (sym m.2) fills) in
    subst (λ (l : List ℕ). EndsSketch r due (l ∷ lines)) (sym s.line_is) g

done_end : (b : Bool) (n : ℕ) → cond b None (Some n) ≡ None → b ≡ true
done_end true n e = refl
done_end false n e = absurd cc

fills_on : (o : Option Due) (d : Due) (n : ℕ) (line : List ℕ) (lines : Lines) → step d line ≡ o → on_step n o (λ next. refused next (n + 1) lines) ≡ None → ((next : Due) → step d line ≡ Some next → refused next (n + 1) lines ≡ None → FillsDue next lines) → FillsDue d (line ∷ lines)
fills_on None d n line lines here e later = absurd cc
fills_on (Some next) d n line lines here e later = fills_step d next line lines here (later next here e)

-- what isn't refused has trees
pub fills : (lines : Lines) (d : Due) (n : ℕ) → IsDue d → refused d n lines ≡ None → FillsDue d lines
fills [] d n is e = none_done d is (done_end (is_done d) n e)
fills (line ∷ lines) d n is e = fills_on (step d line) d n line lines refl e (λ next here. fills lines next (n + 1) (step_is d next line is here))

-- Lines that are refused at line k: with other lines after those before k they aren't, and with line k they are, whatever follows, or there is no line k.
pub record Stops (d : Due) (n : ℕ) (lines : Lines) (k : ℕ) : Type 0 where
  pub before : ℕ
  pub at : k ≡ n + before
  pub rest : Lines
  pub front : refused d n (take before lines ++ rest) ≡ None
  pub bad : ((suc before ≤ length lines) × ((others : Lines) → refused d n (take (suc before) lines ++ others) ≡ Some k)) ⊎ (length lines ≡ before)

undone_end : (b : Bool) (n k : ℕ) → cond b None (Some n) ≡ Some k → n ≡ k
undone_end true n k e = absurd cc
undone_end false n k e = same_Some _ _ e

stops_at : (d : Due) (n : ℕ) (line : List ℕ) (lines : Lines) (o : Option Due) → step d line ≡ o → refused d n (line ∷ lines) ≡ on_step n o (λ next. refused next (n + 1) lines)
stops_at d n line lines o here = ap (λ (p : Option Due). on_step n p (λ next. refused next (n + 1) lines)) here

stops_on : (o : Option Due) (d : Due) (n k : ℕ) (line : List ℕ) (lines : Lines) → IsDue d → step d line ≡ o → on_step n o (λ next. refused next (n + 1) lines) ≡ Some k → ((next : Due) → step d line ≡ Some next → refused next (n + 1) lines ≡ Some k → Stops next (n + 1) lines k) → Stops d n (line ∷ lines) k
stops_on None d n k line lines is here e later =
    let same : n ≡ k = same_Some _ _ e in
    let some = closes d n is in
    record {
      before = 0;
      at = omega arith;
      rest = some.0;
      front = some.1;
      bad = inl (omega arith, λ others. stops_at d n line others None here ∙ e);
    }
stops_on (Some next) d n k line lines is here e later =
    let s = later next here e in
    record {
      before = suc s.before;
      at = let at = s.at in omega arith;
      rest = s.rest;
      front = stops_at d n line (take s.before lines ++ s.rest) (Some next) here ∙ s.front;
      bad = elim s.bad [
        | inl b ↦ inl (let h = b.0 in omega arith, λ others. stops_at d n line (take (suc s.before) lines ++ others) (Some next) here ∙ b.1 others)
        | inr b ↦ inr (ap suc b)
      ];
    }

-- what is refused stops there
pub stops : (lines : Lines) (d : Due) (n k : ℕ) → IsDue d → refused d n lines ≡ Some k → Stops d n lines k
stops [] d n k is e =
    let same : n ≡ k = undone_end (is_done d) n k e in
    let some = closes d n is in
    record { before = 0; at = omega arith; rest = some.0; front = some.1; bad = inr refl }
stops (line ∷ lines) d n k is e = stops_on (step d line) d n k line lines is refl e (λ next here. stops lines next (n + 1) k (step_is d next line is here))
