-- The units of lines, and what is charged for them.
use Rattle.std.proofs.Common.{◌≡◌, ℕ, ◌+◌, List, [], ◌∷◌, ◌++◌, length, map, refl, arith}
use Rattle.std.specs.List.{sum_by}
use Rattle.std.proofs.lemmas.List.Sums.{sum_by-append, sum_by-cons}
use Rattle.capture_prices.specs.Prices.{PriceList}
use Rattle.sketch_text.specs.Marks.{Marks}
use Rattle.sketch_text.specs.Trees.{Line, Node, Nodes, Reason, closed, count, end_of, lines_below, lines_each, lines_of, more, node, none, of_marks, of_node, split, steps, void}
use Rattle.sketch_body.specs.Bodies.{Item, of_prices, units_of_line}
use Rattle.sketch_body.specs.Due.{announced, charge}
use Rattle.sketch_body.proofs.Runs.{Able, able_both, items}

-- what is charged for these lines
abbrev pub charges : List Item → ℕ
charges [] = 0
charges (i ∷ is) = charge i + charges is

pub charges_both : (a b : List Item) → charges (a ++ b) ≡ charges a + charges b
charges_both [] b = omega arith
charges_both (i ∷ a) b = omega (arith, charges_both a b)

items_both : (a b : List Line) → charges (items (a ++ b)) ≡ charges (items a) + charges (items b)
items_both [] b = omega arith
items_both (l ∷ a) b = omega (arith, items_both a b)

pub prices_free : (ps : List PriceList) → charges (map (λ p. of_prices p) ps) ≡ 0
prices_free [] = refl
prices_free (p ∷ ps) = omega (arith, prices_free ps)

marks_charged : (P : ℕ) (ms : List Marks) → Able P (map (λ m. of_marks m) ms) → charges (items (map (λ m. of_marks m) ms)) + length ms ≡ sum_by units_of_line (map (λ m. of_marks m) ms)
marks_charged P [] able = refl
marks_charged P (m ∷ ms) able =
    let some = able.1 in
    omega (arith, marks_charged P ms able.2, sum_by-cons units_of_line (of_marks m) (map (λ m. of_marks m) ms))

mutual
  pub node_charged : (n : Node) (P : ℕ) → Able P (lines_of n) → charges (items (lines_of n)) + 1 ≡ sum_by units_of_line (lines_of n)
  node_charged (node label marks reason) P able =
      let ms : List Line = map (λ m. of_marks m) marks in
      let parts = able_both P ms (lines_below reason) able in
      omega (
        arith,
        sum_by-cons units_of_line (of_node (record { label = label; marks = length marks; end = end_of reason })) (ms ++ lines_below reason),
        sum_by-append units_of_line ms (lines_below reason),
        items_both ms (lines_below reason),
        marks_charged P marks parts.0,
        below_charged reason P parts.1,
      )

  below_charged : (r : Reason) (P : ℕ) → Able P (lines_below r) → charges (items (lines_below r)) + announced (end_of r) ≡ sum_by units_of_line (lines_below r)
  below_charged void P able = refl
  below_charged (closed k) P able = refl
  below_charged (steps ns) P able = each_charged ns P able
  below_charged (split s knight rook queen) P able =
      let one = able_both P (lines_of knight) (lines_of rook ++ lines_of queen) able in
      let two = able_both P (lines_of rook) (lines_of queen) one.1 in
      omega (
        arith,
        items_both (lines_of knight) (lines_of rook ++ lines_of queen),
        items_both (lines_of rook) (lines_of queen),
        sum_by-append units_of_line (lines_of knight) (lines_of rook ++ lines_of queen),
        sum_by-append units_of_line (lines_of rook) (lines_of queen),
        node_charged knight P one.0,
        node_charged rook P two.0,
        node_charged queen P two.1,
      )

  each_charged : (ns : Nodes) (P : ℕ) → Able P (lines_each ns) → charges (items (lines_each ns)) + count ns ≡ sum_by units_of_line (lines_each ns)
  each_charged none P able = refl
  each_charged (more n ns) P able =
      let parts = able_both P (lines_of n) (lines_each ns) able in
      omega (
        arith,
        items_both (lines_of n) (lines_each ns),
        sum_by-append units_of_line (lines_of n) (lines_each ns),
        node_charged n P parts.0,
        each_charged ns P parts.1,
      )
