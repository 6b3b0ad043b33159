-- A line of a sketch, as the functions take it.
use Rattle.std.proofs.Common.{◌≡◌, ℕ, zero, suc, ◌+◌, ◌-◌, ◌<◌, ◌≤◌, Bool, true, false, cond, inl, inr, List, [], ◌∷◌, ◌++◌, length, refl, sym, ap, ◌∙◌, subst, arith}
use Rattle.std.proofs.lemmas.Bool.{cond-false}
use Rattle.std.proofs.lemmas.Option.{cond_some}
use Rattle.std.specs.Prelude.{IsTrue, MatchOption, Option, Some, None}
use Rattle.std.specs.List.{Contains}
use Rattle.capture_prices.specs.Prices.{PriceList, are_prices}
use Rattle.general_lemmas.proofs.Lists.{contains-cases, contains-first, contains-later, contains-none}
use Rattle.sketch_text.specs.Trees.{Line, of_marks, of_node}
use Rattle.sketch_text.specs.declared.nodes.SketchNode.{SketchNode}
use Rattle.sketch_body.specs.Bodies.{Item, of_line, of_prices}
use Rattle.sketch_body.specs.Due.{Due, Reading, after, after_node, fits_depth, is_over, next, step}
use Rattle.sketch_body.proofs.Steps.{next_kept}
use Rattle.sketch_checker.specs.Proofs.{Setting}
use Rattle.sketch_checker.specs.LineWalk as sketches
use Rattle.sketch_checker.specs.Placed.{may_come}
use Rattle.sketch_checker.specs.Walks.{Frame as SketchFrame, Opened}
use Rattle.query_base.specs.Asked.{Asked}
use Rattle.sketch_body.specs.Seen.{item_of, line_of}
use Rattle.sketch_body.specs.declared.lines.SketchItem.{SketchItem}
use Rattle.sketch_body.specs.declared.lines.SketchItem.TheVariants.{Prices, Line as ALine}
use Rattle.sketch_body.specs.declared.lines.SketchLine.{SketchLine}
use Rattle.cert_checker.proofs.SketchNodes.{state}
use Rattle.std.specs.Option.{option_map}
use Rattle.sketch_checker.specs.Supports.{MayAsk, setting_of}
use Rattle.cert_text.specs.Lines.{said}
use Rattle.cert_checker.specs.Frames.{OnNodes, Sketched, as_sketched, going, sketching}
use Rattle.cert_checker.specs.Framing.{stopped_by}
use Rattle.cert_checker.specs.SketchLines.{StandsAt}
use Rattle.cert_checker.specs.Sketching.{GoesOn, IsInStep, IsReading, SketchState, Takes, TakesNode, behind_line, frames_in, opened_in}
use Rattle.cert_checker.specs.Kept.{Frame}
use Rattle.cert_checker.specs.declared.frames.FirstFault.{FirstFault}
use Rattle.cert_checker.proofs.SketchPlaces.{due-comes}
use Rattle.cert_checker.proofs.SketchSteps.{behind_as, nodes_kept, on_nodes, prices_kept, said_next, stands_here, stands_later}

-- the sketch, once its text has gone on
abbrev pub read_on : SketchState → Reading → SketchState
read_on old later = record { units = old.units; reading = later; sketched = record old.sketched { wanted = later.due.wanted }; setting = old.setting }

-- it has few lines of prices
pub few_kept : (r later : Reading) (line : List ℕ) (i : Item) → said (step r) line ≡ Some (i, later) → r.due.prices ≤ 64 → later.due.prices ≤ 64
few_kept r later line i e few = let same = next_kept r.due i later.due (said_next r later line i e) in omega (arith, same, few)

-- what an item says that was read
said_as : (o : Option SketchItem) (item : SketchItem) (later : Reading) (x : Option (Item × Reading)) → option_map (λ i. (item_of i, later)) o ≡ x → o ≡ Some item → x ≡ Some (item_of item, later)
said_as o item later x e is = sym e ∙ ap (option_map (λ (i : SketchItem). (item_of i, later))) is

pub said_prices : (o : Option SketchItem) (item : SketchItem) (p : PriceList) (later : Reading) (x : Option (Item × Reading)) → option_map (λ i. (item_of i, later)) o ≡ x → o ≡ Some item → item ≡ Prices p → x ≡ Some (of_prices p, later)
said_prices o item p later x e is one = said_as o item later x e is ∙ ap (λ (i : SketchItem). Some (item_of i, later)) one

pub said_line : (o : Option SketchItem) (item : SketchItem) (l : SketchLine) (later : Reading) (x : Option (Item × Reading)) → option_map (λ i. (item_of i, later)) o ≡ x → o ≡ Some item → item ≡ ALine l → x ≡ Some (of_line (line_of l), later)
said_line o item l later x e is one = said_as o item later x e is ∙ ap (λ (i : SketchItem). Some (item_of i, later)) one

pub few_read : (r later : Reading) (line : List ℕ) (o : Option SketchItem) (item : SketchItem) → option_map (λ i. (item_of i, later)) o ≡ said (step r) line → o ≡ Some item → r.due.prices ≤ 64 → later.due.prices ≤ 64
few_read r later line o item e is few = few_kept r later line (item_of item) (said_as o item later (said (step r) line) e is) few

pub few_counted : (r later : Reading) (line : List ℕ) (o : Option SketchItem) → option_map (λ i. (item_of i, later)) o ≡ said (step r) line → MatchOption o (later ≡ r) (λ i. Unit {0}) → r.due.prices ≤ 64 → later.due.prices ≤ 64
few_counted r later line None e kept few = subst (λ (x : Reading). x.due.prices ≤ 64) (sym kept) few
few_counted r later line (Some item) e kept few = few_read r later line (Some item) item e refl few

-- PRICES

known_more : (ps : List PriceList) (p : PriceList) → ((x : PriceList) → Contains ps x → IsTrue (are_prices x)) → IsTrue (are_prices p) → (x : PriceList) → Contains (ps ++ p ∷ []) x → IsTrue (are_prices x)
known_more [] p known one x there = elim (contains-cases p [] x there) [
  | inl same ↦ subst (λ (y : PriceList). IsTrue (are_prices y)) same one
  | inr later ↦ absurd (contains-none x later)
]
known_more (q ∷ ps) p known one x there = elim (contains-cases q (ps ++ p ∷ []) x there) [
  | inl same ↦ subst (λ (y : PriceList). IsTrue (are_prices y)) same (known q (contains-first q ps))
  | inr later ↦ known_more ps p (λ y in_. known y (contains-later q ps y in_)) one x later
]

-- there is room for one more
pub prices_room : (old : SketchState) (later : Reading) (line : List ℕ) (p : PriceList) → IsReading old → said (step old.reading) line ≡ Some (of_prices p, later) → length old.sketched.prices < 64
prices_room old later line p is e =
    let kept = prices_kept old.sketched old.reading later p is.in_step (said_next old.reading later line (of_prices p) e) in
    room (length old.sketched.prices) old.sketched.wanted old.reading.due.prices is.in_step.prices is.few (some_wanted old.reading.due.prices old.reading.due.wanted old.reading.due.marks old.reading.due.nodes p later.due (said_next old.reading later line (of_prices p) e)) is.in_step.wanted
  where
    some_wanted : (P w marks : ℕ) (nodes : List ℕ) (q : PriceList) (d : Due) → after P w marks nodes (of_prices q) ≡ Some d → 0 < w
    some_wanted P zero marks nodes q d on = absurd cc
    some_wanted P (suc w) marks nodes q d on = omega arith

    room : (n w P : ℕ) → P ≡ n + w → P ≤ 64 → 0 < old.reading.due.wanted → old.reading.due.wanted ≡ w → n < 64
    room n w P sum few some same = omega (arith, sum, few, some, same)

-- the sketch behind a line of prices
abbrev pub with_prices : SketchState → Reading → PriceList → SketchState
with_prices old later p = record { units = old.units; reading = later; sketched = record old.sketched { prices = old.sketched.prices ++ p ∷ []; wanted = later.due.wanted }; setting = record old.setting { prices = old.setting.prices ++ p ∷ [] } }

pub added_prices : (u : ℕ) (r later : Reading) (q : Asked) (g h : Setting) (b : Bool) (o x : Option Opened) (fs gs : List SketchFrame) (p : PriceList) → h ≡ record g { prices = g.prices ++ p ∷ [] } → sketches.going x gs ≡ sketches.going o fs → state u later q h b x gs ≡ with_prices (state u r q g b o fs) later p
added_prices u r later q g h b o x fs gs p added kept =
    let one : x ≡ o = cc in
    let two : gs ≡ fs = cc in
    ap (λ (k : Setting). state u later q k b x gs) added
    ∙ ap (λ (y : Option Opened). state u later q (record g { prices = g.prices ++ p ∷ [] }) b y gs) one
    ∙ ap (λ (ys : List SketchFrame). state u later q (record g { prices = g.prices ++ p ∷ [] }) b o ys) two

pub prices_taken : (old new : SketchState) (later : Reading) (p : PriceList) (n : ℕ) (line : List ℕ) → IsReading old → said (step old.reading) line ≡ Some (of_prices p, later) → new ≡ with_prices old later p → Takes (Some None) old new n line
prices_taken old new later p n line is e same =
    subst (λ (k : SketchState). Takes (Some None) old k n line) (sym same) (of_prices p, e, λ frames. behind frames)
  where
    kept : IsInStep (record old.sketched { prices = old.sketched.prices ++ p ∷ []; wanted = old.sketched.wanted - 1 }) later
    kept = prices_kept old.sketched old.reading later p is.in_step (said_next old.reading later line (of_prices p) e)

    behind : (frames : List Frame) → behind_line None (with_prices old later p) frames ≡ sketching (record old.sketched { prices = old.sketched.prices ++ p ∷ []; wanted = old.sketched.wanted - 1 }) frames
    behind frames =
        cond-false (is_over later.due) (going frames) (sketching (with_prices old later p).sketched frames) kept.still
        ∙ ap (λ (w : ℕ). sketching (record old.sketched { prices = old.sketched.prices ++ p ∷ []; wanted = w }) frames) kept.wanted

pub prices_reading : (old new : SketchState) (later : Reading) (p : PriceList) (line : List ℕ) → IsReading old → said (step old.reading) line ≡ Some (of_prices p, later) → IsTrue (are_prices p) → new ≡ with_prices old later p → IsReading new
prices_reading old new later p line is e one same = subst IsReading (sym same) it
  where
    kept : IsInStep (record old.sketched { prices = old.sketched.prices ++ p ∷ []; wanted = old.sketched.wanted - 1 }) later
    kept = prices_kept old.sketched old.reading later p is.in_step (said_next old.reading later line (of_prices p) e)

    it : IsReading (with_prices old later p)
    it = record {
      in_step = subst (λ (w : ℕ). IsInStep (record old.sketched { prices = old.sketched.prices ++ p ∷ []; wanted = w }) later) (sym kept.wanted) kept;
      few = few_kept old.reading later line (of_prices p) e is.few;
      known = known_more old.sketched.prices p is.known one;
      setting = ap (λ (g : Setting). record g { prices = g.prices ++ p ∷ [] }) is.setting;
    }

-- NODES AND MARKS

node_wanted : (P : ℕ) (nodes : List ℕ) (x : SketchNode) (e : Due) → after_node P nodes x ≡ Some e → e.wanted ≡ 0
node_wanted P [] x e on = absurd cc
node_wanted P (zero ∷ nodes) x e on = absurd cc
node_wanted P (suc n ∷ nodes) x e on = ap (λ (d : Due). d.wanted) (sym (cond_some (fits_depth P (length nodes) x) _ e on).1)

line_wanted : (P w marks : ℕ) (nodes : List ℕ) (l : Line) (e : Due) → after P w marks nodes (of_line l) ≡ Some e → (w ≡ 0) × (e.wanted ≡ 0)
line_wanted P (suc w) marks nodes l e on = absurd cc
line_wanted P zero (suc marks) nodes (of_marks m) e on = (refl, let is : record { prices = P; wanted = 0; marks = marks; nodes = nodes } ≡ e = cc in ap (λ (d : Due). d.wanted) (sym is))
line_wanted P zero (suc marks) nodes (of_node x) e on = absurd cc
line_wanted P zero zero nodes (of_marks m) e on = absurd cc
line_wanted P zero zero nodes (of_node x) e on = (refl, node_wanted P nodes x e on)

-- where such a line is read, no line of prices is due, before and behind it
pub same_sketched : (old : SketchState) (later : Reading) (line : List ℕ) (l : Line) → IsReading old → said (step old.reading) line ≡ Some (of_line l, later) → (read_on old later).sketched ≡ old.sketched
same_sketched old later line l is e =
    let w = line_wanted old.reading.due.prices old.reading.due.wanted old.reading.due.marks old.reading.due.nodes l later.due (said_next old.reading later line (of_line l) e) in
    ap (λ (k : ℕ). record old.sketched { wanted = k }) (w.1 ∙ sym w.0 ∙ is.in_step.wanted)

-- it may come next
pub line_placed : (old : SketchState) (later : Reading) (line : List ℕ) (l : Line) → IsReading old → said (step old.reading) line ≡ Some (of_line l, later) → may_come (opened_in (read_on old later).sketched.nodes) (frames_in (read_on old later).sketched (read_on old later).sketched.nodes) l ≡ true
line_placed old later line l is e =
    let on = said_next old.reading later line (of_line l) e in
    subst (λ (s : Sketched). may_come (opened_in s.nodes) (frames_in s s.nodes) l ≡ true) (sym (same_sketched old later line l is e))
    (due-comes old.reading.due later.due (opened_in old.sketched.nodes) (frames_in old.sketched old.sketched.nodes) l (stands_here old.sketched old.reading later l is.in_step on) on)

module _ (old new : SketchState) (later : Reading) (n : ℕ) (line : List ℕ) (l : Line) (is : IsReading old) (e : said (step old.reading) line ≡ Some (of_line l, later)) where
  due : next old.reading.due (of_line l) ≡ Some later.due
  due = said_next old.reading later line (of_line l) e

  same : (read_on old later).sketched ≡ old.sketched
  same = same_sketched old later line l is e

  asked : GoesOn (read_on old later) new n l → old.sketched.nodes ≡ None → MayAsk old.sketched.query old.sketched.prices
  asked go none = record { root = go.root none; known = is.known }

  stands : (go : GoesOn (read_on old later) new n l) → StandsAt later.due go.opened go.frames
  stands go = stands_later old.setting old.sketched old.reading later n l go.opened go.frames is.in_step due go.line

  now : (go : GoesOn (read_on old later) new n l) → new.sketched ≡ record old.sketched { nodes = Some (go.opened, go.frames) }
  now go = go.sketched ∙ ap (λ (s : Sketched). record s { nodes = Some (go.opened, go.frames) }) same

  goes : (go : GoesOn (read_on old later) new n l) → new.reading ≡ later → (frames : List Frame) → OnNodes old.sketched.nodes old.sketched frames n l (behind_line None new frames)
  goes go reading frames =
      let on = on_nodes old.sketched.nodes old.sketched frames n l (sketches.going go.opened go.frames) (asked go) (subst (λ (g : Setting). sketches.OnLine g (opened_in old.sketched.nodes) (frames_in old.sketched old.sketched.nodes) n l (sketches.going go.opened go.frames)) is.setting go.line) in
      let behind = behind_as later.due go.opened go.frames old.sketched frames (stands go) in
      let is_ : as_sketched (sketches.going go.opened go.frames) old.sketched frames ≡ behind_line None new frames =
      behind ∙ ap (λ (s : Sketched). cond (is_over later.due) (going frames) (sketching s frames)) (sym (now go)) ∙ ap (λ (r : Reading). cond (is_over r.due) (going frames) (sketching new.sketched frames)) (sym reading) in
      subst (OnNodes old.sketched.nodes old.sketched frames n l) is_ on

  pub line_taken : (f : Option FirstFault) → TakesNode f (read_on old later) new n l → new.reading ≡ later → Takes (Some f) old new n line
  line_taken None go reading = (of_line l, subst (λ (r : Reading). said (step old.reading) line ≡ Some (of_line l, r)) (sym reading) e, goes go reading)
  line_taken (Some f) fault reading =
      (of_line l, subst (λ (r : Reading). said (step old.reading) line ≡ Some (of_line l, r)) (sym reading) e, λ frames. subst (λ (s : Sketched). OnNodes s.nodes s frames n l (stopped_by f)) same (fault frames))

  pub line_reading : GoesOn (read_on old later) new n l → new.reading ≡ later → new.setting ≡ old.setting → is_over new.reading.due ≡ false → IsReading new
  line_reading go reading setting still =
      let open_ : is_over later.due ≡ false = ap (λ (r : Reading). is_over r.due) (sym reading) ∙ still in
      let kept : IsInStep (record old.sketched { nodes = Some (go.opened, go.frames) }) later = nodes_kept old.sketched old.reading later l go.opened go.frames is.in_step due (stands go) open_ in
      record {
        in_step = subst (IsInStep new.sketched) (sym reading) (subst (λ (s : Sketched). IsInStep s later) (sym (now go)) kept);
        few = subst (λ (r : Reading). r.due.prices ≤ 64) (sym reading) (few_kept old.reading later line (of_line l) e is.few);
        known = subst (λ (s : Sketched). (p : PriceList) → Contains s.prices p → IsTrue (are_prices p)) (sym (now go)) is.known;
        setting = setting ∙ is.setting ∙ ap (λ (s : Sketched). setting_of s.query s.exact s.prices) (sym (now go));
      }
