-- Lines that are all that is due are those of trees.
use Rattle.std.proofs.Common.{◌≡◌, ℕ, zero, suc, Bool, true, false, cond, List, [], ◌∷◌, ◌++◌, length, map, refl, sym, ap, ◌∙◌, arith, append_assoc, append-nil}
use Rattle.std.specs.Prelude.{Option, Some, None}
use Rattle.std.specs.Option.{option_and_then}
use Rattle.std.proofs.lemmas.Option.{same_Some}
use Rattle.capture_prices.specs.Prices.{PriceList}
use Rattle.sketch_text.specs.Marks.{Marks}
use Rattle.sketch_text.specs.Trees.{Line, Nodes, Reason, closed, count, end_of, lines_below, lines_each, lines_of, more, node, none, of_marks, of_node, split, steps, void}
use Rattle.sketch_text.specs.declared.nodes.End.{End}
use Rattle.sketch_text.specs.declared.nodes.End.TheVariants.{Void, Closed, Steps, Split}
use Rattle.sketch_text.specs.declared.nodes.SketchNode.{SketchNode}
use Rattle.sketch_body.specs.Bodies.{Item, of_line, of_prices}
use Rattle.sketch_body.specs.Due.{Due, announced, fits_depth, settled}
use Rattle.sketch_body.proofs.Runs.{FitsBelow, FitsEach, at, items, line_of, run}

-- the lines of the nodes that are due, at each depth
abbrev pub Fills : ℕ → List ℕ → List Line → Type 0
Fills P [] lines = lines ≡ []
Fills P (c ∷ nodes) lines =
    (ns : Nodes) × (others : List Line) × (count ns ≡ c) × (lines ≡ lines_each ns ++ others) × FitsEach P (length nodes) ns × Fills P nodes others

-- the lines are those of marks, and of the nodes that are due
pub record Filled (P : ℕ) (many : ℕ) (nodes : List ℕ) (is : List Item) : Type 0 where
  pub marks : List Marks
  pub lines : List Line
  pub many_are : length marks ≡ many
  pub items_are : is ≡ items (map (λ m. of_marks m) marks ++ lines)
  pub fills : Fills P nodes lines

unsettled : (P : ℕ) (nodes : List ℕ) (lines : List Line) → Fills P (settled nodes) lines → Fills P nodes lines
unsettled P [] lines fills = fills
unsettled P (zero ∷ nodes) lines fills = (none, lines, refl, refl, tt, unsettled P nodes lines fills)
unsettled P (suc n ∷ nodes) lines fills = fills

then_cond : {A B : Type 0} (b : Bool) (x : A) (f : A → Option B) (y : B) → option_and_then f (cond b (Some x) None) ≡ Some y → (b ≡ true) × (f x ≡ Some y)
then_cond true x f y e = (refl, e)
then_cond false x f y e = absurd cc

-- why no game comes to a node with this end, with these nodes below it
record IsReason (P depth : ℕ) (end : End) (below : Nodes) : Type 0 where
  reason : Reason
  end_is : end_of reason ≡ end
  lines : lines_below reason ≡ lines_each below
  fits : FitsBelow P depth reason

three : (P depth s : ℕ) (below : Nodes) → count below ≡ 3 → FitsEach P (suc depth) below → IsReason P depth (Split s) below
three P depth s none e fits = absurd (omega arith)
three P depth s (more a none) e fits = absurd (omega arith)
three P depth s (more a (more b none)) e fits = absurd (omega arith)
three P depth s (more a (more b (more c none))) e fits = record {
  reason = split s a b c;
  end_is = refl;
  lines = ap (λ (l : List Line). lines_of a ++ (lines_of b ++ l)) (sym (append-nil (lines_of c)));
  fits = (fits.0, fits.1.0, fits.1.1.0);
}
three P depth s (more a (more b (more c (more d ns)))) e fits = absurd (omega arith)

nothing : (P depth : ℕ) (end : End) (r : Reason) (below : Nodes) → count below ≡ 0 → end_of r ≡ end → lines_below r ≡ [] → FitsBelow P depth r → IsReason P depth end below
nothing P depth end r none e same lines fits = record { reason = r; end_is = same; lines = lines; fits = fits }
nothing P depth end r (more a ns) e same lines fits = absurd (omega arith)

reason_for : (P depth : ℕ) (end : End) (below : Nodes) → count below ≡ announced end → FitsEach P (suc depth) below → IsReason P depth end below
reason_for P depth Void below e fits = nothing P depth Void void below e refl refl tt
reason_for P depth (Closed k) below e fits = nothing P depth (Closed k) (closed k) below e refl refl tt
reason_for P depth (Steps m) below e fits = record { reason = steps below; end_is = ap (λ (n : ℕ). Steps n) e; lines = refl; fits = fits }
reason_for P depth (Split s) below e fits = three P depth s below e fits

grouped : (a b c d : List Line) → a ++ (b ++ (c ++ d)) ≡ ((a ++ b) ++ c) ++ d
grouped a b c d = sym (append_assoc a b (c ++ d)) ∙ sym (append_assoc (a ++ b) c d)

-- a node's line, and what follows it
with_node : (P c : ℕ) (nodes : List ℕ) (x : SketchNode) (is : List Item) → fits_depth P (length nodes) x ≡ true → Filled P x.marks (settled (announced x.end ∷ c ∷ nodes)) is → Filled P 0 (suc c ∷ nodes) (of_line (of_node x) ∷ is)
with_node P c nodes x is fits f =
    let below = unsettled P (announced x.end ∷ c ∷ nodes) f.lines f.fills in
    let beside = below.5 in
    let r : IsReason P (length nodes) x.end below.0 = reason_for P (length nodes) x.end below.0 below.2 below.4 in
    let marks : List Line = map (λ m. of_marks m) f.marks in
    let y : SketchNode = line_of x.label f.marks r.reason in
    let same : y ≡ x = λ i. record { label = x.label; marks = f.many_are i; end = r.end_is i } in
    let size = beside.2 in
    record {
      marks = [];
      lines = of_node x ∷ (marks ++ f.lines);
      many_are = refl;
      items_are = ap (λ (l : List Item). of_line (of_node x) ∷ l) f.items_are;
      fills = (
        more (node x.label f.marks r.reason) beside.0,
        beside.1,
        omega arith,
        ap (λ (z : SketchNode). of_node z ∷ (marks ++ f.lines)) (sym same)
            ∙ ap (λ (l : List Line). of_node y ∷ (marks ++ l)) (below.3 ∙ ap (λ (l : List Line). lines_each below.0 ++ l) beside.3 ∙ ap (λ (l : List Line). l ++ (lines_each beside.0 ++ beside.1)) (sym r.lines))
            ∙ ap (λ (l : List Line). of_node y ∷ l) (grouped marks (lines_below r.reason) (lines_each beside.0) beside.1),
        ((ap (fits_depth P (length nodes)) same ∙ fits, r.fits), beside.4),
        beside.5,
      );
    }

-- lines that end the walk
pub filled : (is : List Item) (P Q many : ℕ) (nodes : List ℕ) → run (at P many nodes) is ≡ Some (at Q 0 []) → Filled P many nodes is
filled [] P Q zero [] e = record { marks = []; lines = []; many_are = refl; items_are = refl; fills = refl }
filled [] P Q zero (n ∷ nodes) e =
    let size = ap (λ (d : Due). length d.nodes) (same_Some _ _ e) in
    absurd (omega arith)
filled [] P Q (suc many) nodes e =
    let size = ap (λ (d : Due). d.marks) (same_Some _ _ e) in
    absurd (omega arith)
filled (of_prices p ∷ is) P Q many nodes e = absurd cc
filled (of_line (of_marks m) ∷ is) P Q zero nodes e = absurd cc
filled (of_line (of_marks m) ∷ is) P Q (suc many) nodes e =
    let f : Filled P many nodes is = filled is P Q many nodes e in
    record {
      marks = m ∷ f.marks;
      lines = f.lines;
      many_are = ap suc f.many_are;
      items_are = ap (λ (l : List Item). of_line (of_marks m) ∷ l) f.items_are;
      fills = f.fills;
    }
filled (of_line (of_node x) ∷ is) P Q (suc many) nodes e = absurd cc
filled (of_line (of_node x) ∷ is) P Q zero [] e = absurd cc
filled (of_line (of_node x) ∷ is) P Q zero (zero ∷ nodes) e = absurd cc
filled (of_line (of_node x) ∷ is) P Q zero (suc c ∷ nodes) e =
    let on = then_cond (fits_depth P (length nodes) x) (at P x.marks (settled (announced x.end ∷ c ∷ nodes))) (λ d. run d is) (at Q 0 []) e in
    with_node P c nodes x is on.0 (filled is P Q x.marks (settled (announced x.end ∷ c ∷ nodes)) on.1)

-- the lines of prices, and those that follow them
pub record Priced (P wanted many : ℕ) (nodes : List ℕ) (is : List Item) (last : Due) : Type 0 where
  pub prices : List PriceList
  pub rest : List Item
  pub size : length prices ≡ wanted
  pub items_are : is ≡ map (λ p. of_prices p) prices ++ rest
  pub runs : run (at P many nodes) rest ≡ Some last

pub priced : (is : List Item) (P Q wanted many : ℕ) (nodes : List ℕ) → run (record { prices = P; wanted = wanted; marks = many; nodes = nodes }) is ≡ Some (at Q 0 []) → Priced P wanted many nodes is (at Q 0 [])
priced is P Q zero many nodes e = record { prices = []; rest = is; size = refl; items_are = refl; runs = e }
priced [] P Q (suc wanted) many nodes e =
    let size = ap (λ (d : Due). d.wanted) (same_Some _ _ e) in
    absurd (omega arith)
priced (of_line l ∷ is) P Q (suc wanted) many nodes e = absurd cc
priced (of_prices p ∷ is) P Q (suc wanted) many nodes e =
    let f : Priced P wanted many nodes is (at Q 0 []) = priced is P Q wanted many nodes e in
    record {
      prices = p ∷ f.prices;
      rest = f.rest;
      size = ap suc f.size;
      items_are = ap (λ (l : List Item). of_prices p ∷ l) f.items_are;
      runs = f.runs;
    }
