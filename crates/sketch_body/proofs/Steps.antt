-- Steps over texts, taken apart.
use Rattle.std.proofs.Common.{◌≡◌, ℕ, zero, suc, ◌+◌, ◌≤◌, List, [], ◌∷◌, length, nat_le, refl, sym, ap, ◌∙◌, subst, arith, add-zero}
use Rattle.std.specs.Prelude.{Some, None}
use Rattle.std.specs.Option.{option_and_then, option_map}
use Rattle.std.proofs.lemmas.Bool.{cond-true, le-leb, leb-true}
use Rattle.std.proofs.lemmas.Option.{cond_some, option_and_then_some, same_Some}
use Rattle.board_base.proofs.TextLemmas.{mapped_some}
use Rattle.capture_prices.specs.Prices.{PriceList}
use Rattle.price_text.specs.PriceTexts.{prices_of}
use Rattle.sketch_text.specs.Marks.{Marks, mark_line}
use Rattle.sketch_text.specs.Nodes.{node_of}
use Rattle.sketch_text.specs.Trees.{of_marks, of_node}
use Rattle.sketch_text.specs.declared.nodes.SketchNode.{SketchNode}
use Rattle.sketch_body.specs.Bodies.{Item, SayEach, Says, most_units, of_line, of_prices}
use Rattle.sketch_body.specs.Due.{Due, Leads, Reading, after, announced, charge, charged, fits_depth, gone_on, next, read_as, settled, step}
use Rattle.sketch_body.proofs.Charged.{charges}
use Rattle.sketch_body.proofs.Runs.{run}

-- what is read is said

pub read_says : (P wanted marks : ℕ) (text : List ℕ) (i : Item) → read_as P wanted marks text ≡ Some i → Says P text i
read_says P (suc wanted) marks text i e =
    let m = mapped_some (λ (p : PriceList). of_prices p) (prices_of text) i e in
    subst (Says P text) m.2 m.1
read_says P zero (suc marks) text i e =
    let m = mapped_some (λ (x : Marks). of_line (of_marks x)) (mark_line P text) i e in
    subst (Says P text) m.2 m.1
read_says P zero zero text i e =
    let m = mapped_some (λ (x : SketchNode). of_line (of_node x)) (node_of P text) i e in
    subst (Says P text) m.2 m.1

-- what is said is read, where it is due
pub says_read : (P wanted marks : ℕ) (nodes : List ℕ) (text : List ℕ) (i : Item) (e : Due) → Says P text i → after P wanted marks nodes i ≡ Some e → read_as P wanted marks text ≡ Some i
says_read P (suc wanted) marks nodes text (of_prices p) e says on = ap (option_map (λ (p : PriceList). of_prices p)) says
says_read P (suc wanted) marks nodes text (of_line l) e says on = absurd cc
says_read P zero marks nodes text (of_prices p) e says on = absurd cc
says_read P zero (suc marks) nodes text (of_line (of_marks m)) e says on = ap (option_map (λ (x : Marks). of_line (of_marks x))) says
says_read P zero (suc marks) nodes text (of_line (of_node x)) e says on = absurd cc
says_read P zero zero nodes text (of_line (of_marks m)) e says on = absurd cc
says_read P zero zero nodes text (of_line (of_node x)) e says on = ap (option_map (λ (x : SketchNode). of_line (of_node x))) says

after_kept : (P wanted marks : ℕ) (nodes : List ℕ) (i : Item) (e : Due) → after P wanted marks nodes i ≡ Some e → e.prices ≡ P
after_kept P (suc wanted) marks nodes (of_prices p) e on = sym (ap (λ (d : Due). d.prices) (same_Some _ _ on))
after_kept P (suc wanted) marks nodes (of_line l) e on = absurd cc
after_kept P zero marks nodes (of_prices p) e on = absurd cc
after_kept P zero (suc marks) nodes (of_line (of_marks m)) e on = sym (ap (λ (d : Due). d.prices) (same_Some _ _ on))
after_kept P zero (suc marks) nodes (of_line (of_node x)) e on = absurd cc
after_kept P zero zero nodes (of_line (of_marks m)) e on = absurd cc
after_kept P zero zero [] (of_line (of_node x)) e on = absurd cc
after_kept P zero zero (zero ∷ nodes) (of_line (of_node x)) e on = absurd cc
after_kept P zero zero (suc n ∷ nodes) (of_line (of_node x)) e on =
    let d : Due = record { prices = P; wanted = 0; marks = x.marks; nodes = settled (announced x.end ∷ n ∷ nodes) } in
    sym (ap (λ (d : Due). d.prices) (cond_some (fits_depth P (length nodes) x) d e on).1)

pub next_kept : (d : Due) (i : Item) (e : Due) → next d i ≡ Some e → e.prices ≡ d.prices
next_kept d i e on = after_kept d.prices d.wanted d.marks d.nodes i e on

pub run_kept : (is : List Item) (d e : Due) → run d is ≡ Some e → e.prices ≡ d.prices
run_kept [] d e runs = sym (ap (λ (d : Due). d.prices) (same_Some _ _ runs))
run_kept (i ∷ is) d e runs = option_and_then_some (λ (f : Due). run f is) (next d i) e runs (λ f on rest. run_kept is f e rest ∙ next_kept d i f on)

-- one step

pub record IsStep (r : Reading) (text : List ℕ) (i : Item) (s : Reading) : Type 0 where
  pub says : Says r.due.prices text i
  pub on : next r.due i ≡ Some s.due
  pub units_are : s.units ≡ r.units + charge i
  pub few : s.units ≤ most_units

gone_parts : (r : Reading) (text : List ℕ) (i : Item) (s : Reading) → Says r.due.prices text i → gone_on r i ≡ Some s → IsStep r text i s
gone_parts r text i s says e =
    option_and_then_some (charged (r.units + charge i)) (next r.due i) s e (λ d on made.
    let n : ℕ = r.units + charge i in
    let c = cond_some (nat_le n most_units) (record { due = d; units = n }) s made in
    let few = leb-true n most_units c.0 in
    let same : s.units ≡ n = sym (ap (λ (t : Reading). t.units) c.1) in
    record { says = says; on = on ∙ ap (λ (t : Reading). Some t.due) c.1; units_are = same; few = omega arith })

pub step_parts : (r : Reading) (text : List ℕ) (i : Item) (s : Reading) → step r text ≡ Some (i, s) → IsStep r text i s
step_parts r text i s e =
    option_and_then_some (λ (j : Item). option_map (λ (t : Reading). (j, t)) (gone_on r j)) (read_as r.due.prices r.due.wanted r.due.marks text) (i, s) e (λ j is stands.
    let m = mapped_some (λ (t : Reading). (j, t)) (gone_on r j) (i, s) stands in
    let parts : IsStep r text j m.0 = gone_parts r text j m.0 (read_says r.due.prices r.due.wanted r.due.marks text j is) m.1 in
    subst (λ (p : Item × Reading). IsStep r text p.0 p.1) m.2 parts)

pub step_from : (r : Reading) (text : List ℕ) (i : Item) (d : Due) → Says r.due.prices text i → next r.due i ≡ Some d → r.units + charge i ≤ most_units → step r text ≡ Some (i, record { due = d; units = r.units + charge i })
step_from r text i d says on few =
    let n : ℕ = r.units + charge i in
    ap (option_and_then (λ (j : Item). option_map (λ (s : Reading). (j, s)) (gone_on r j))) (says_read r.due.prices r.due.wanted r.due.marks r.due.nodes text i d says on)
    ∙ ap (option_map (λ (s : Reading). (i, s))) (ap (option_and_then (charged n)) on ∙ cond-true (nat_le n most_units) (Some (record { due = d; units = n })) None (le-leb n most_units few))

-- many steps

pub record AreSteps (r : Reading) (texts : List (List ℕ)) (items : List Item) (last : Reading) : Type 0 where
  pub said : SayEach r.due.prices texts items
  pub runs : run r.due items ≡ Some last.due
  pub units_are : last.units ≡ r.units + charges items

pub leads_parts : (texts : List (List ℕ)) (items : List Item) (r last : Reading) → Leads r texts items last → AreSteps r texts items last
leads_parts [] [] r last e =
    let same = ap (λ (t : Reading). t.units) e in
    record { said = tt; runs = ap (λ (t : Reading). Some t.due) e; units_are = omega arith }
leads_parts [] (i ∷ items) r last e = absurd e
leads_parts (text ∷ texts) [] r last e = absurd e
leads_parts (text ∷ texts) (i ∷ items) r last (s, e, more) =
    let one = step_parts r text i s e in
    let rest = leads_parts texts items s last more in
    let units = one.units_are in
    let others = rest.units_are in
    record {
      said = (one.says, subst (λ (P : ℕ). SayEach P texts items) (next_kept r.due i s.due one.on) rest.said);
      runs = ap (option_and_then (λ (d : Due). run d items)) one.on ∙ rest.runs;
      units_are = omega arith;
    }

pub leads_few : (texts : List (List ℕ)) (items : List Item) (r last : Reading) → r.units ≤ most_units → Leads r texts items last → last.units ≤ most_units
leads_few [] [] r last few e = let same = ap (λ (t : Reading). t.units) e in omega arith
leads_few [] (i ∷ items) r last few e = absurd e
leads_few (text ∷ texts) [] r last few e = absurd e
leads_few (text ∷ texts) (i ∷ items) r last few (s, e, more) = leads_few texts items s last (step_parts r text i s e).few more

pub leads_from : (texts : List (List ℕ)) (items : List Item) (r : Reading) (d : Due) → SayEach r.due.prices texts items → run r.due items ≡ Some d → r.units + charges items ≤ most_units → Leads r texts items (record { due = d; units = r.units + charges items })
leads_from [] [] r d said runs few = λ i. record { due = same_Some r.due d runs i; units = sym (add-zero r.units) i }
leads_from [] (i ∷ items) r d said runs few = absurd said
leads_from (text ∷ texts) [] r d said runs few = absurd said
leads_from (text ∷ texts) (i ∷ items) r d said runs few =
    option_and_then_some (λ (e : Due). run e items) (next r.due i) d runs (λ e on rest.
    let s : Reading = record { due = e; units = r.units + charge i } in
    let all : s.units + charges items ≡ r.units + (charge i + charges items) = omega arith in
    let more : Leads s texts items (record { due = d; units = s.units + charges items }) = leads_from texts items s d (subst (λ (P : ℕ). SayEach P texts items) (sym (next_kept r.due i e on)) said.1) rest (omega arith) in (
      s,
      step_from r text i e said.0 on (omega arith),
      subst (λ (n : ℕ). Leads s texts items (record { due = d; units = n })) all more,
    ))

-- what is said leads along one list of lines
pub same_items : (texts : List (List ℕ)) (is js : List Item) (d e f : Due) → SayEach d.prices texts is → SayEach d.prices texts js → run d is ≡ Some e → run d js ≡ Some f → is ≡ js
same_items [] [] [] d e f p q a b = refl
same_items [] [] (j ∷ js) d e f p q a b = absurd q
same_items [] (i ∷ is) js d e f p q a b = absurd p
same_items (text ∷ texts) [] js d e f p q a b = absurd p
same_items (text ∷ texts) (i ∷ is) [] d e f p q a b = absurd q
same_items (text ∷ texts) (i ∷ is) (j ∷ js) d e f p q a b =
    option_and_then_some (λ (g : Due). run g is) (next d i) e a (λ g on rest.
    option_and_then_some (λ (h : Due). run h js) (next d j) f b (λ h also others.
    let same : i ≡ j = same_Some i j (sym (says_read d.prices d.wanted d.marks d.nodes text i g p.0 on) ∙ says_read d.prices d.wanted d.marks d.nodes text j h q.0 also) in
    let there : g ≡ h = same_Some g h (sym on ∙ ap (next d) same ∙ also) in
    let first : SayEach g.prices texts is = subst (λ (P : ℕ). SayEach P texts is) (sym (next_kept d i g on)) p.1 in
    let second : SayEach g.prices texts js = subst (λ (P : ℕ). SayEach P texts js) (sym (next_kept d i g on)) q.1 in
    ap (λ (x : Item). x ∷ is) same ∙ ap (λ (l : List Item). j ∷ l) (same_items texts is js g e f first second rest (ap (λ (x : Due). run x js) there ∙ others))))
