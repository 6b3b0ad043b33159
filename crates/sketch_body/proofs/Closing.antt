-- Whatever is due, some lines end it, at no more units.
use Rattle.std.proofs.Common.{◌≡◌, ℕ, zero, suc, ◌<◌, ◌≤◌, true, List, [], ◌∷◌, ◌++◌, length, map, replicate, nat_lt, refl, sym, ap, ◌∙◌, subst, arith}
use Rattle.std.specs.Prelude.{Some, None}
use Rattle.std.specs.Option.{option_and_then}
use Rattle.std.proofs.lemmas.Bool.{and_from, and_parts, cond-true, le-leb, ltb-true}
use Rattle.std.proofs.lemmas.Option.{cond_some, same_Some}
use Rattle.capture_prices.specs.Prices.{priced}
use Rattle.price_text.proofs.PriceTexts.{prices_back, prices_read}
use Rattle.sketch_text.specs.Trees.{of_marks, of_node}
use Rattle.sketch_text.specs.declared.labels.Label.{Label}
use Rattle.sketch_text.specs.declared.labels.Label.TheVariants.{Now, Step}
use Rattle.sketch_text.specs.declared.labels.Way.TheVariants.{Straight}
use Rattle.sketch_text.specs.declared.nodes.End.TheVariants.{Void}
use Rattle.sketch_text.specs.declared.nodes.SketchNode.{SketchNode}
use Rattle.sketch_text.proofs.MarkTexts.{mark_read, mark_stands}
use Rattle.sketch_text.proofs.NodeTexts.{node_read, node_stands}
use Rattle.sketch_body.specs.Bodies.{Item, SayEach, Says, of_line, of_prices}
use Rattle.sketch_body.specs.Due.{Due, after, after_node, announced, charge, fits_depth, fits_label, if_any, settled}
use Rattle.sketch_body.specs.Texts.{is_item, item_text}
use Rattle.sketch_body.proofs.Charged.{charges, charges_both}
use Rattle.sketch_body.proofs.Runs.{at, run, so_if}
use Rattle.sketch_body.proofs.Settling.{settled_twice}

-- one text each

pub says_from : (P : ℕ) (i : Item) → P ≤ 64 → is_item P i ≡ true → Says P (item_text i) i
says_from P (of_prices p) few known = prices_back p known
says_from P (of_line (of_node x)) few known = node_stands P x few known
says_from P (of_line (of_marks m)) few known = mark_stands P m few known

pub record IsTextOfItem (P : ℕ) (text : List ℕ) (i : Item) : Type 0 where
  pub known : is_item P i ≡ true
  pub text_is : text ≡ item_text i

pub says_is : (P : ℕ) (text : List ℕ) (i : Item) → Says P text i → IsTextOfItem P text i
says_is P text (of_prices p) says = let is = prices_read text p says in record { known = is.known; text_is = is.text_is }
says_is P text (of_line (of_node x)) says = let is = node_read P text x says in record { known = is.known; text_is = is.text_is }
says_is P text (of_line (of_marks m)) says = let is = mark_read P text m says in record { known = is.known; text_is = is.text_is }

pub texts_are : (P : ℕ) (texts : List (List ℕ)) (is : List Item) → SayEach P texts is → texts ≡ map item_text is
texts_are P [] [] said = refl
texts_are P [] (i ∷ is) said = absurd said
texts_are P (text ∷ texts) [] said = absurd said
texts_are P (text ∷ texts) (i ∷ is) said =
    ap (λ (t : List ℕ). t ∷ texts) (says_is P text i said.0).text_is ∙ ap (λ (ts : List (List ℕ)). item_text i ∷ ts) (texts_are P texts is said.1)

abbrev pub AreItems : ℕ → List Item → Type 0
AreItems P [] = Unit {0}
AreItems P (i ∷ is) = (is_item P i ≡ true) × AreItems P is

pub say_each : (P : ℕ) (is : List Item) → P ≤ 64 → AreItems P is → SayEach P (map item_text is) is
say_each P [] few known = tt
say_each P (i ∷ is) few known = (says_from P i few known.0, say_each P is few known.1)

items_both : (P : ℕ) (a b : List Item) → AreItems P a → AreItems P b → AreItems P (a ++ b)
items_both P [] b p q = q
items_both P (i ∷ a) b p q = (p.0, items_both P a b p.1 q)

many : (P n : ℕ) (i : Item) → (0 < n → is_item P i ≡ true) → AreItems P (replicate n i)
many P zero i known = tt
many P (suc n) i known = (known (omega arith), many P n i (λ some. known (omega arith)))

free_many : (n : ℕ) (i : Item) → charge i ≡ 0 → charges (replicate n i) ≡ 0
free_many zero i free = refl
free_many (suc n) i free = omega (arith, free_many n i free)

-- what stays so

pub record IsSound (d : Due) : Type 0 where
  pub marks : 0 < d.marks → 0 < d.prices
  pub nodes : settled d.nodes ≡ d.nodes

pub sound_after : (P wanted marks : ℕ) (nodes : List ℕ) (i : Item) (e : Due) → (0 < marks → 0 < P) → settled nodes ≡ nodes → after P wanted marks nodes i ≡ Some e → IsSound e
sound_after P (suc wanted) marks nodes (of_prices p) e able set on = subst IsSound (same_Some _ e on) (record { marks = able; nodes = set })
sound_after P (suc wanted) marks nodes (of_line l) e able set on = absurd cc
sound_after P zero marks nodes (of_prices p) e able set on = absurd cc
sound_after P zero (suc marks) nodes (of_line (of_marks m)) e able set on = subst IsSound (same_Some _ e on) (record { marks = λ some. able (omega arith); nodes = set })
sound_after P zero (suc marks) nodes (of_line (of_node x)) e able set on = absurd cc
sound_after P zero zero nodes (of_line (of_marks m)) e able set on = absurd cc
sound_after P zero zero [] (of_line (of_node x)) e able set on = absurd cc
sound_after P zero zero (zero ∷ nodes) (of_line (of_node x)) e able set on = absurd cc
sound_after P zero zero (suc n ∷ nodes) (of_line (of_node x)) e able set on =
    let d : Due = record { prices = P; wanted = 0; marks = x.marks; nodes = settled (announced x.end ∷ n ∷ nodes) } in
    let c = cond_some (fits_depth P (length nodes) x) d e on in
    let last = and_parts (if_any (announced x.end) (nat_lt (length nodes) 64)) (if_any x.marks (nat_lt 0 P)) (and_parts (fits_label (length nodes) x.label) _ c.0).1 in
    subst IsSound c.1 (record { marks = λ some. ltb-true 0 P (so_if x.marks (nat_lt 0 P) some last.1); nodes = settled_twice (announced x.end ∷ n ∷ nodes) })

-- lines that end it

abbrev pub some_prices : Item
some_prices = of_prices (priced (replicate 16 0) (replicate 16 0) [])

abbrev pub one_mark : Item
one_mark = of_line (of_marks (record { by = 1; figures = 1 ∷ [] }))

abbrev label_at : ℕ → Label
label_at zero = Now
label_at (suc depth) = Step (record { from = 0; to = 0; way = Straight })

abbrev void_at : ℕ → SketchNode
void_at depth = record { label = label_at depth; marks = 0; end = Void }

abbrev pub leaf : ℕ → Item
leaf depth = of_line (of_node (void_at depth))

abbrev pub closing_nodes : List ℕ → List Item
closing_nodes [] = []
closing_nodes (c ∷ nodes) = replicate c (leaf (length nodes)) ++ closing_nodes nodes

abbrev pub closing : Due → List Item
closing d = replicate d.wanted some_prices ++ (replicate d.marks one_mark ++ closing_nodes d.nodes)

leaf_fits : (P depth : ℕ) → fits_depth P depth (void_at depth) ≡ true
leaf_fits P zero = refl
leaf_fits P (suc depth) = refl

leaf_known : (P depth : ℕ) → is_item P (leaf depth) ≡ true
leaf_known P zero = refl
leaf_known P (suc depth) = refl

leaves_run : (P c : ℕ) (nodes : List ℕ) (rest : List Item) → run (at P 0 (settled (c ∷ nodes))) (replicate c (leaf (length nodes)) ++ rest) ≡ run (at P 0 (settled nodes)) rest
leaves_run P zero nodes rest = refl
leaves_run P (suc c) nodes rest =
    let d : Due = at P 0 (settled (c ∷ nodes)) in
    let here : after_node P (suc c ∷ nodes) (void_at (length nodes)) ≡ Some d = cond-true (fits_depth P (length nodes) (void_at (length nodes))) (Some d) None (leaf_fits P (length nodes)) in
    ap (option_and_then (λ (e : Due). run e (replicate c (leaf (length nodes)) ++ rest))) here ∙ leaves_run P c nodes rest

nodes_run : (P : ℕ) (nodes : List ℕ) → run (at P 0 (settled nodes)) (closing_nodes nodes) ≡ Some (at P 0 [])
nodes_run P [] = refl
nodes_run P (c ∷ nodes) = leaves_run P c nodes (closing_nodes nodes) ∙ nodes_run P nodes

marks_run : (P marks : ℕ) (nodes : List ℕ) (rest : List Item) → run (at P marks nodes) (replicate marks one_mark ++ rest) ≡ run (at P 0 nodes) rest
marks_run P zero nodes rest = refl
marks_run P (suc marks) nodes rest = marks_run P marks nodes rest

prices_run : (P wanted marks : ℕ) (nodes : List ℕ) (rest : List Item) → run (record { prices = P; wanted = wanted; marks = marks; nodes = nodes }) (replicate wanted some_prices ++ rest) ≡ run (at P marks nodes) rest
prices_run P zero marks nodes rest = refl
prices_run P (suc wanted) marks nodes rest = prices_run P wanted marks nodes rest

-- they do
pub closes : (d : Due) → IsSound d → run d (closing d) ≡ Some (at d.prices 0 [])
closes d sound =
    prices_run d.prices d.wanted d.marks d.nodes (replicate d.marks one_mark ++ closing_nodes d.nodes)
    ∙ marks_run d.prices d.marks d.nodes (closing_nodes d.nodes)
    ∙ ap (λ (nodes : List ℕ). run (at d.prices 0 nodes) (closing_nodes d.nodes)) (sym sound.nodes)
    ∙ nodes_run d.prices d.nodes

nodes_known : (P : ℕ) (nodes : List ℕ) → AreItems P (closing_nodes nodes)
nodes_known P [] = tt
nodes_known P (c ∷ nodes) = items_both P (replicate c (leaf (length nodes))) (closing_nodes nodes) (many P c (leaf (length nodes)) (λ some. leaf_known P (length nodes))) (nodes_known P nodes)

mark_known : (P : ℕ) → 0 < P → is_item P one_mark ≡ true
mark_known zero some = absurd (omega arith)
mark_known (suc P) some = and_from _ _ (and_from _ _ (and_from _ _ refl (le-leb 1 (suc P) some)) refl) refl

pub known : (d : Due) → IsSound d → AreItems d.prices (closing d)
known d sound =
    items_both d.prices (replicate d.wanted some_prices) (replicate d.marks one_mark ++ closing_nodes d.nodes) (many d.prices d.wanted some_prices (λ some. refl))
    (items_both d.prices (replicate d.marks one_mark) (closing_nodes d.nodes) (many d.prices d.marks one_mark (λ some. mark_known d.prices (sound.marks some))) (nodes_known d.prices d.nodes))

nodes_free : (nodes : List ℕ) → charges (closing_nodes nodes) ≡ 0
nodes_free [] = refl
nodes_free (c ∷ nodes) = omega (arith, charges_both (replicate c (leaf (length nodes))) (closing_nodes nodes), free_many c (leaf (length nodes)) refl, nodes_free nodes)

pub free : (d : Due) → charges (closing d) ≡ 0
free d =
    omega (
      arith,
      charges_both (replicate d.wanted some_prices) (replicate d.marks one_mark ++ closing_nodes d.nodes),
      charges_both (replicate d.marks one_mark) (closing_nodes d.nodes),
      free_many d.wanted some_prices refl,
      free_many d.marks one_mark refl,
      nodes_free d.nodes,
    )

pub closing_said : (d : Due) → d.prices ≤ 64 → IsSound d → SayEach d.prices (map item_text (closing d)) (closing d)
closing_said d few sound = say_each d.prices (closing d) few (known d sound)
