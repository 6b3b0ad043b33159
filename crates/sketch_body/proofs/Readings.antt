-- Readings and the sketches that they end as.
use Rattle.std.proofs.Common.{◌≡◌, ℕ, zero, suc, ◌+◌, ◌<◌, ◌≤◌, Bool, true, List, [], ◌∷◌, ◌++◌, length, map, nat_le, refl, sym, ap, ◌∙◌, subst, arith, append-nil}
use Rattle.std.specs.Prelude.{◌↔◌, Option, Some, None}
use Rattle.std.specs.List.{list_all, sum_by}
use Rattle.std.specs.Option.{option_and_then, option_map}
use Rattle.std.proofs.lemmas.Bool.{and_from, and_parts, cond-true, le-leb, leb-true}
use Rattle.std.proofs.lemmas.Option.{cond_some, option_and_then_some, same_Some}
use Rattle.capture_prices.specs.Prices.{PriceList}
use Rattle.general_lemmas.proofs.Lists.{same_rest}
use Rattle.sketch_text.specs.Heads.{Head, are_files, is_head}
use Rattle.sketch_text.specs.Marks.{Marks, are_figures, is_some_figure}
use Rattle.sketch_text.specs.Trees.{Line, Node, Nodes, count, height, lines_each, lines_of, more, node, none, of_marks, of_node}
use Rattle.sketch_text.specs.Nodes.{node_of}
use Rattle.sketch_text.specs.declared.nodes.SketchNode.{SketchNode}
use Rattle.sketch_text.proofs.MarkTexts.{mark_read}
use Rattle.sketch_body.specs.Bodies.{AreOfTree, AreTextsOf, Body, Item, SayEach, head_of, is_first, is_never_below, is_now, items_of, most_units, of_line, of_prices, units_of, units_of_line}
use Rattle.sketch_body.specs.Due.{Due, Leads, Reading, gone_on, is_done, next, is_over, start, step}
use Rattle.sketch_body.specs.Ends.{EndsAs, IsEnding, ReadsTo}
use Rattle.sketch_body.specs.Texts.{is_item, item_text}
use Rattle.sketch_body.specs.Whole.{first_due, is_body, on_next, runs_out}
use Rattle.sketch_body.proofs.Charged.{charges, charges_both, node_charged, prices_free}
use Rattle.sketch_body.proofs.Closing.{AreItems, IsSound, closes, closing, closing_said, free, say_each, says_is, sound_after, texts_are}
use Rattle.sketch_body.proofs.Fills.{filled, priced}
use Rattle.sketch_body.proofs.Runs.{Able, Fits, FitsEach, at, below_never, first_fits, items, node_low, node_runs, run}
use Rattle.sketch_body.proofs.Steps.{leads_few, leads_from, leads_parts, next_kept, run_kept, same_items, step_parts}

-- the start

pub record IsStart (units : ℕ) (h : Head) (first : Reading) : Type 0 where
  pub due_is : first.due ≡ first_due h.prices
  pub units_are : first.units ≡ units + (h.prices + 1)
  pub few : first.units ≤ most_units

pub start_parts : (units : ℕ) (h : Head) (first : Reading) → start units h ≡ Some first → IsStart units h first
start_parts units h first e =
    let n : ℕ = units + (h.prices + 1) in
    let c = cond_some (nat_le n most_units) (record { due = first_due h.prices; units = n }) first e in
    let few = leb-true n most_units c.0 in
    let same : first.units ≡ n = sym (ap (λ (t : Reading). t.units) c.1) in
    record { due_is = sym (ap (λ (t : Reading). t.due) c.1); units_are = same; few = omega arith }

-- the end

over_parts : (wanted marks : ℕ) (nodes : List ℕ) → is_done wanted marks nodes ≡ true → (wanted ≡ 0) × (marks ≡ 0) × (nodes ≡ [])
over_parts zero zero [] e = (refl, refl, refl)
over_parts zero zero (n ∷ nodes) e = absurd cc
over_parts zero (suc marks) nodes e = absurd cc
over_parts (suc wanted) marks nodes e = absurd cc

over_is : (d : Due) → is_over d ≡ true → d ≡ at d.prices 0 []
over_is d e =
    let parts = over_parts d.wanted d.marks d.nodes e in
    λ i. record { prices = d.prices; wanted = parts.0 i; marks = parts.1 i; nodes = parts.2 i }

-- what is said of marks

some_figures : (figures : List ℕ) → is_some_figure figures ≡ true → 0 < length figures
some_figures [] e = absurd cc
some_figures (i ∷ figures) e = omega arith

able_from : (P : ℕ) (ps : List PriceList) (lines : List Line) (texts : List (List ℕ)) → SayEach P texts (map (λ p. of_prices p) ps ++ items lines) → Able P lines
able_from P [] [] texts said = tt
able_from P [] (l ∷ lines) [] said = absurd said
able_from P [] (of_node x ∷ lines) (text ∷ texts) said = able_from P [] lines texts said.1
able_from P [] (of_marks m ∷ lines) (text ∷ texts) said =
    let is = mark_read P text m said.0 in
    let last = and_parts _ (are_figures 1 m.figures) is.known in
    let third = and_parts _ (is_some_figure m.figures) last.0 in
    let first = and_parts (nat_le 1 m.by) (nat_le m.by P) third.0 in
    let from = leb-true 1 m.by first.0 in
    let to = leb-true m.by P first.1 in
    (omega arith, some_figures m.figures third.1, able_from P [] lines texts said.1)
able_from P (p ∷ ps) lines [] said = absurd said
able_from P (p ∷ ps) lines (text ∷ texts) said = able_from P ps lines texts said.1

-- the first node

record IsOneNode (P : ℕ) (ns : Nodes) : Type 0 where
  tree : Node
  lines : lines_each ns ≡ lines_of tree
  fits : Fits P 0 tree

one_node : (P : ℕ) (ns : Nodes) → count ns ≡ 1 → FitsEach P 0 ns → IsOneNode P ns
one_node P none e fits = absurd (omega arith)
one_node P (more n none) e fits = record { tree = n; lines = append-nil (lines_of n); fits = fits.0 }
one_node P (more n (more k ns)) e fits = absurd (omega arith)

fits_first : (n : Node) (P : ℕ) → Fits P 0 n → is_first n ≡ true
fits_first (node label marks reason) P fits = and_from _ _ (and_parts (is_now label) _ fits.0).0 (below_never reason P 0 fits.1)

first_fits_all : (n : Node) (P : ℕ) → is_first n ≡ true → height n ≤ 64 → Able P (lines_of n) → Fits P 0 n
first_fits_all (node label marks reason) P first low able =
    let parts = and_parts (is_now label) (is_never_below reason) first in
    first_fits label marks reason P parts.0 parts.1 low able

no_marks : (ms : List Marks) → length ms ≡ 0 → ms ≡ []
no_marks [] e = refl
no_marks (m ∷ ms) e = absurd (omega arith)

-- the units

body_charged : (b : Body) (n : Node) → lines_of n ≡ b.lines → Able (length b.prices) b.lines → length b.prices + 1 + charges (items_of b) ≡ units_of b
body_charged b n e able =
    let P : ℕ = length b.prices in
    let own : Able P (lines_of n) = subst (Able P) (sym e) able in
    let units : sum_by units_of_line (lines_of n) ≡ sum_by units_of_line b.lines = ap (sum_by units_of_line) e in
    let charged : charges (items (lines_of n)) ≡ charges (items b.lines) = ap (λ (l : List Line). charges (items l)) e in
    omega (arith, node_charged n P own, charges_both (map (λ p. of_prices p) b.prices) (items b.lines), prices_free b.prices)

-- a reading that is at its end is one of a sketch

record IsPlanted (h : Head) (is : List Item) (b : Body) : Type 0 where
  head : head_of b ≡ h
  items_are : is ≡ items_of b
  tree : Node
  written : lines_of tree ≡ b.lines
  fits : Fits h.prices 0 tree

planted : (h : Head) (Q : ℕ) (is : List Item) → run (first_due h.prices) is ≡ Some (at Q 0 []) → (b : Body) × IsPlanted h is b
planted h Q is runs =
    let p = priced is h.prices Q h.prices 0 (1 ∷ []) runs in
    let f = filled p.rest h.prices Q 0 (1 ∷ []) p.runs in
    let marks : f.marks ≡ [] = no_marks f.marks f.many_are in
    let rest : p.rest ≡ items f.lines = f.items_are ∙ ap (λ (ms : List Marks). items (map (λ m. of_marks m) ms ++ f.lines)) marks in
    let one : IsOneNode h.prices f.fills.0 = one_node h.prices f.fills.0 f.fills.2 f.fills.4 in
    let size = p.size in (
      record { files = h.files; prices = p.prices; lines = f.lines },
      record {
        head = λ i. record { prices = p.size i; files = h.files };
        items_are = p.items_are ∙ ap (λ (l : List Item). map (λ q. of_prices q) p.prices ++ l) rest;
        tree = one.tree;
        written = sym one.lines ∙ sym (append-nil (lines_each f.fills.0)) ∙ ap (λ (l : List Line). lines_each f.fills.0 ++ l) (sym f.fills.5) ∙ sym f.fills.3;
        fits = one.fits;
      },
    )

low_zero : (n : ℕ) → n + 0 ≤ 64 → n ≤ 64
low_zero n low = omega arith

ends_as : (units : ℕ) (h : Head) (texts : List (List ℕ)) (is : List Item) (last : Reading) → ReadsTo units h texts is last → is_over last.due ≡ true → (b : Body) × EndsAs units h texts is last b
ends_as units h texts is last reads over =
    let first : Reading = reads.first in
    let s : IsStart units h first = start_parts units h first reads.starts in
    let parts = leads_parts texts is first last reads.leads in
    let end : last.due ≡ at last.due.prices 0 [] = over_is last.due over in
    let runs : run (first_due h.prices) is ≡ Some (at last.due.prices 0 []) = ap (λ (d : Due). run d is) (sym s.due_is) ∙ parts.runs ∙ ap (λ (d : Due). Some d) end in
    let found = planted h last.due.prices is runs in
    let b : Body = found.0 in
    let p : IsPlanted h is b = found.1 in
    let P : length b.prices ≡ h.prices = ap (λ (x : Head). x.prices) p.head in
    let begun : first.due.prices ≡ length b.prices = ap (λ (d : Due). d.prices) s.due_is ∙ sym P in
    let said : SayEach (length b.prices) texts (items_of b) = subst (SayEach (length b.prices) texts) p.items_are (subst (λ (n : ℕ). SayEach n texts is) begun parts.said) in
    let able : Able (length b.prices) b.lines = able_from (length b.prices) b.prices b.lines texts said in
    let same : charges is ≡ charges (items_of b) = ap charges p.items_are in
    let units_are : last.units ≡ units + units_of b = let all = parts.units_are in let start = s.units_are in omega (arith, body_charged b p.tree p.written able, P) in
    let kept : last.due.prices ≡ length b.prices = run_kept is first.due last.due parts.runs ∙ begun in
    let few = leads_few texts is first last s.few reads.leads in (
      b,
      record {
        head = p.head;
        items_are = p.items_are;
        texts_are = record { said = said; tree = record { tree = p.tree; written = p.written; first = fits_first p.tree h.prices p.fits; low = low_zero (height p.tree) (node_low p.tree h.prices 0 (omega arith) p.fits) } };
        last_is = λ i. record { due = (end ∙ ap (λ (n : ℕ). at n 0 []) kept) i; units = units_are i };
        few = omega arith;
      },
    )

-- a sketch is read to its end

prices_run : (ps : List PriceList) (P marks : ℕ) (nodes : List ℕ) (rest : List Item) → run (record { prices = P; wanted = length ps; marks = marks; nodes = nodes }) (map (λ p. of_prices p) ps ++ rest) ≡ run (at P marks nodes) rest
prices_run [] P marks nodes rest = refl
prices_run (p ∷ ps) P marks nodes rest = prices_run ps P marks nodes rest

tree_runs : (b : Body) (t : AreOfTree b.lines) → Able (length b.prices) b.lines → run (first_due (length b.prices)) (items_of b) ≡ Some (at (length b.prices) 0 [])
tree_runs b t able =
    let P : ℕ = length b.prices in
    let n : Node = t.tree in
    let own : Able P (lines_of n) = subst (Able P) (sym t.written) able in
    prices_run b.prices P 0 (1 ∷ []) (items b.lines)
    ∙ ap (λ (l : List Line). run (at P 0 (1 ∷ [])) (items l)) (sym t.written)
    ∙ ap (run (at P 0 (1 ∷ []))) (sym (append-nil (items (lines_of n))))
    ∙ node_runs n P 0 [] [] (first_fits_all n P t.first t.low own)

reads_to : (units : ℕ) (h : Head) (texts : List (List ℕ)) (is : List Item) (last : Reading) (b : Body) → EndsAs units h texts is last b → ReadsTo units h texts is last × (is_over last.due ≡ true)
reads_to units h texts is last b e =
    let P : ℕ = length b.prices in
    let t = e.texts_are.tree in
    let able : Able P b.lines = able_from P b.prices b.lines texts e.texts_are.said in
    let charged = body_charged b t.tree t.written able in
    let few = e.few in
    let n : ℕ = units + (P + 1) in
    let first : Reading = record { due = first_due P; units = n } in
    let begins : start units (head_of b) ≡ Some first = cond-true (nat_le n most_units) (Some first) None (le-leb n most_units (omega arith)) in
    let end : Reading = record { due = at P 0 []; units = n + charges (items_of b) } in
    let leads : Leads first texts (items_of b) end = leads_from texts (items_of b) first (at P 0 []) e.texts_are.said (tree_runs b t able) (omega arith) in
    let all : n + charges (items_of b) ≡ units + units_of b = omega arith in
    let there : end ≡ last = (λ i. record { due = at P 0 []; units = all i }) ∙ sym e.last_is in (
      record {
        first = first;
        starts = ap (start units) (sym e.head) ∙ begins;
        leads = subst (λ (r : Reading). Leads first texts is r) there (subst (λ (l : List Item). Leads first texts l end) (sym e.items_are) leads);
      },
      ap (λ (r : Reading). is_over r.due) (sym there),
    )

pub whole_law : (units : ℕ) (h : Head) (texts : List (List ℕ)) (is : List Item) (last : Reading) → (ReadsTo units h texts is last × (is_over last.due ≡ true)) ↔ ((b : Body) × EndsAs units h texts is last b)
whole_law units h texts is last = (λ p. ends_as units h texts is last p.0 p.1, λ p. reads_to units h texts is last p.0 p.1)

-- one sketch, and one list of texts

first_line : (l k : Line) (a b : List Item) → of_line l ∷ a ≡ of_line k ∷ b → l ≡ k
first_line l k a b e = cc

first_prices : (p q : PriceList) (a b : List Item) → of_prices p ∷ a ≡ of_prices q ∷ b → p ≡ q
first_prices p q a b e = cc

heads_files : (b c : Body) → head_of b ≡ head_of c → b.files ≡ c.files
heads_files b c e = ap (λ (h : Head). h.files) e

unlined : (a b : List Line) → items a ≡ items b → a ≡ b
unlined [] [] e = refl
unlined [] (l ∷ b) e = absurd cc
unlined (l ∷ a) [] e = absurd cc
unlined (l ∷ a) (k ∷ b) e = let first : l ≡ k = first_line l k _ _ e in ap (λ (x : Line). x ∷ a) first ∙ ap (λ (x : List Line). k ∷ x) (unlined a b (same_rest e))

parted : (ps qs : List PriceList) (a b : List Line) → length ps ≡ length qs → map (λ p. of_prices p) ps ++ items a ≡ map (λ p. of_prices p) qs ++ items b → (ps ≡ qs) × (a ≡ b)
parted [] [] a b size e = (refl, unlined a b e)
parted [] (q ∷ qs) a b size e = absurd (omega arith)
parted (p ∷ ps) [] a b size e = absurd (omega arith)
parted (p ∷ ps) (q ∷ qs) a b size e =
    let rest = parted ps qs a b (omega arith) (same_rest e) in
    (ap (λ (x : PriceList). x ∷ ps) (first_prices p q _ _ e) ∙ ap (λ (x : List PriceList). q ∷ x) rest.0, rest.1)

pub body_one : (texts : List (List ℕ)) (b c : Body) → head_of b ≡ head_of c → AreTextsOf texts b → AreTextsOf texts c → b ≡ c
body_one texts b c heads p q =
    let P : length c.prices ≡ length b.prices = sym (ap (λ (h : Head). h.prices) heads) in
    let one = tree_runs b p.tree (able_from (length b.prices) b.prices b.lines texts p.said) in
    let two = tree_runs c q.tree (able_from (length c.prices) c.prices c.lines texts q.said) in
    let said : SayEach (length b.prices) texts (items_of c) = subst (λ (n : ℕ). SayEach n texts (items_of c)) P q.said in
    let runs : run (first_due (length b.prices)) (items_of c) ≡ Some (at (length c.prices) 0 []) = ap (λ (n : ℕ). run (first_due n) (items_of c)) (sym P) ∙ two in
    let same : items_of b ≡ items_of c = same_items texts (items_of b) (items_of c) (first_due (length b.prices)) (at (length b.prices) 0 []) (at (length c.prices) 0 []) p.said said one runs in
    let parts = parted b.prices c.prices b.lines c.lines (sym P) same in
    λ i. record { files = heads_files b c heads i; prices = parts.0 i; lines = parts.1 i }

pub texts_one : (a c : List (List ℕ)) (b : Body) → AreTextsOf a b → AreTextsOf c b → a ≡ c
texts_one a c b p q = texts_are (length b.prices) a (items_of b) p.said ∙ sym (texts_are (length b.prices) c (items_of b) q.said)

-- whatever was read, some lines end it

nothing_mapped : (o : Option SketchNode) (P units : ℕ) → option_and_then {U = Item × Reading} (λ i. option_map (λ s. (i, s)) (gone_on (record { due = at P 0 []; units = units }) i)) (option_map (λ x. of_line (of_node x)) o) ≡ None
nothing_mapped None P units = refl
nothing_mapped (Some x) P units = refl

nothing_on : (P units : ℕ) (text : List ℕ) → step (record { due = at P 0 []; units = units }) text ≡ None
nothing_on P units text = nothing_mapped (node_of P text) P units

-- a reading that is reached
pub record IsGoing (r : Reading) : Type 0 where
  pub sound : IsSound r.due
  pub low : r.due.prices ≤ 64
  pub few : r.units ≤ most_units

pub going_starts : (units : ℕ) (h : Head) (first : Reading) → h.prices ≤ 64 → start units h ≡ Some first → IsGoing first
going_starts units h first low e =
    let s = start_parts units h first e in
    let prices : first.due.prices ≡ h.prices = ap (λ (d : Due). d.prices) s.due_is in
    record { sound = subst IsSound (sym s.due_is) (record { marks = λ some. absurd (omega arith); nodes = refl }); low = omega arith; few = s.few }

pub going_on : (r : Reading) (text : List ℕ) (i : Item) (s : Reading) → IsGoing r → step r text ≡ Some (i, s) → IsGoing s
going_on r text i s going e =
    let one = step_parts r text i s e in
    let prices : s.due.prices ≡ r.due.prices = next_kept r.due i s.due one.on in
    let low = going.low in
    record { sound = sound_after r.due.prices r.due.wanted r.due.marks r.due.nodes i s.due going.sound.marks going.sound.nodes one.on; low = omega arith; few = one.few }

going_leads : (texts : List (List ℕ)) (is : List Item) (r last : Reading) → IsGoing r → Leads r texts is last → IsGoing last
going_leads [] [] r last going e = subst IsGoing e going
going_leads [] (i ∷ is) r last going e = absurd e
going_leads (text ∷ texts) [] r last going e = absurd e
going_leads (text ∷ texts) (i ∷ is) r last going (s, e, rest) = going_leads texts is s last (going_on r text i s going e) rest

pub going_ends : (r : Reading) → IsGoing r → (rest : List (List ℕ)) × (more : List Item) × (last : Reading) × IsEnding r rest more last
going_ends r going =
    let others : List Item = closing r.due in
    let few = going.few in
    let unchanged : r.units + charges others ≡ r.units = omega (arith, free r.due) in
    let last : Reading = record { due = at r.due.prices 0 []; units = r.units + charges others } in
    (map item_text others, others, last, record { leads = leads_from (map item_text others) others r (at r.due.prices 0 []) (closing_said r.due going.low going.sound) (closes r.due going.sound) (omega arith); over = refl; units_are = unchanged })

pub ending : (units : ℕ) (h : Head) (texts : List (List ℕ)) (is : List Item) (r : Reading) → h.prices ≤ 64 → ReadsTo units h texts is r → (rest : List (List ℕ)) × (more : List Item) × (last : Reading) × IsEnding r rest more last
ending units h texts is r low reads = going_ends r (going_leads texts is reads.first r (going_starts units h reads.first low reads.starts) reads.leads)

pub stops : (r : Reading) (text : List ℕ) → is_over r.due ≡ true → step r text ≡ None
stops r text over =
    let end : r ≡ record { due = at r.due.prices 0 []; units = r.units } = λ i. record { due = over_is r.due over i; units = r.units } in
    ap (λ (t : Reading). step t text) end ∙ nothing_on r.due.prices r.units text

-- which sketches have texts

pub on_parts : (o : Option Due) (go : Due → Bool) → on_next o go ≡ true → (e : Due) × (o ≡ Some e) × (go e ≡ true)
on_parts None go so = absurd cc
on_parts (Some e) go so = (e, refl, so)

out_runs : (is : List Item) (d : Due) → runs_out d is ≡ true → (e : Due) × (run d is ≡ Some e) × (is_over e ≡ true)
out_runs [] d over = (d, refl, over)
out_runs (i ∷ is) d over =
    let p = on_parts (next d i) (λ e. runs_out e is) over in
    let rest = out_runs is p.0 p.2 in
    (rest.0, ap (option_and_then (λ (g : Due). run g is)) p.1 ∙ rest.1, rest.2)

runs_over : (is : List Item) (d e : Due) → run d is ≡ Some e → is_over e ≡ true → runs_out d is ≡ true
runs_over [] d e runs over = ap is_over (same_Some d e runs) ∙ over
runs_over (i ∷ is) d e runs over =
    option_and_then_some (λ (f : Due). run f is) (next d i) e runs (λ f on rest. ap (λ (o : Option Due). on_next o (λ g. runs_out g is)) on ∙ runs_over is f e rest over)

all_items : (P : ℕ) (is : List Item) → list_all (is_item P) is ≡ true → AreItems P is
all_items P [] known = tt
all_items P (i ∷ is) known = let parts = and_parts (is_item P i) (list_all (is_item P) is) known in (parts.0, all_items P is parts.1)

known_items : (P : ℕ) (texts : List (List ℕ)) (is : List Item) → SayEach P texts is → list_all (is_item P) is ≡ true
known_items P [] [] said = refl
known_items P [] (i ∷ is) said = absurd said
known_items P (text ∷ texts) [] said = absurd said
known_items P (text ∷ texts) (i ∷ is) said = and_from _ _ (says_is P text i said.0).known (known_items P texts is said.1)

pub body_known : (texts : List (List ℕ)) (b : Body) → is_head (head_of b) ≡ true → AreTextsOf texts b → is_body b ≡ true
body_known texts b head t =
    and_from _ _ head (and_from _ _ (known_items (length b.prices) texts (items_of b) t.said) (runs_over (items_of b) (first_due (length b.prices)) (at (length b.prices) 0 []) (tree_runs b t.tree (able_from (length b.prices) b.prices b.lines texts t.said)) refl))

pub body_texts : (b : Body) → is_body b ≡ true → AreTextsOf (map item_text (items_of b)) b
body_texts b known =
    let P : ℕ = length b.prices in
    let parts = and_parts (is_head (head_of b)) _ known in
    let rest = and_parts (list_all (is_item P) (items_of b)) (runs_out (first_due P) (items_of b)) parts.1 in
    let low : P ≤ 64 = leb-true P 64 (and_parts (nat_le P 64) (are_files 0 b.files) parts.0).0 in
    let out = out_runs (items_of b) (first_due P) rest.1 in
    let runs : run (first_due P) (items_of b) ≡ Some (at out.0.prices 0 []) = out.1 ∙ ap (λ (d : Due). Some d) (over_is out.0 out.2) in
    let found = planted (head_of b) out.0.prices (items_of b) runs in
    let c : Body = found.0 in
    let p : IsPlanted (head_of b) (items_of b) c = found.1 in
    let size : P ≡ length c.prices = sym (ap (λ (h : Head). h.prices) p.head) in
    let lines : b.lines ≡ c.lines = (parted b.prices c.prices b.lines c.lines size p.items_are).1 in
    record {
      said = say_each P (items_of b) low (all_items P (items_of b) rest.0);
      tree = record { tree = p.tree; written = p.written ∙ sym lines; first = fits_first p.tree P p.fits; low = low_zero (height p.tree) (node_low p.tree P 0 (omega arith) p.fits) };
    }

-- two sketches that begin the same lines

nothing_next : (P : ℕ) (i : Item) → next (at P 0 []) i ≡ None
nothing_next P (of_prices p) = refl
nothing_next P (of_line (of_marks m)) = refl
nothing_next P (of_line (of_node x)) = refl

pub over_next : (d : Due) (i : Item) → is_over d ≡ true → next d i ≡ None
over_next d i over = ap (λ (e : Due). next e i) (over_is d over) ∙ nothing_next d.prices i

pub body_runs : (texts : List (List ℕ)) (b : Body) → AreTextsOf texts b → run (first_due (length b.prices)) (items_of b) ≡ Some (at (length b.prices) 0 [])
body_runs texts b t = tree_runs b t.tree (able_from (length b.prices) b.prices b.lines texts t.said)

-- the lines of a sketch in memory

pub leads_more : (texts : List (List ℕ)) (is : List Item) (r s t : Reading) (text : List ℕ) (i : Item) → Leads r texts is s → step s text ≡ Some (i, t) → Leads r (texts ++ text ∷ []) (is ++ i ∷ []) t
leads_more [] [] r s t text i leads e = (t, ap (λ (q : Reading). step q text) leads ∙ e, refl)
leads_more [] (j ∷ is) r s t text i leads e = absurd leads
leads_more (u ∷ texts) [] r s t text i leads e = absurd leads
leads_more (u ∷ texts) (j ∷ is) r s t text i (q, on, rest) e = (q, on, leads_more texts is q s t text i rest e)
