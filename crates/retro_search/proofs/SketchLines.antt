-- The lines of a sketch are short, and no more than its units.
use Rattle.std.proofs.Common.{◌≡◌, ℕ, ◌+◌, ◌*◌, ◌≤◌, true, List, [], ◌∷◌, ◌++◌, length, map, ap, arith, length-append}
use Rattle.std.specs.List.{concat, list_all, sum_by}
use Rattle.std.proofs.lemmas.Bool.{and_parts, leb-true}
use Rattle.std.proofs.lemmas.List.Sums.{sum_by-cons}
use Rattle.capture_prices.specs.Prices.{PriceList}
use Rattle.cert_text.specs.Lines.{ended}
use Rattle.cert_text.proofs.Short.{item_short}
use Rattle.sketch_text.specs.Heads.{are_files}
use Rattle.sketch_text.specs.Marks.{is_some_figure}
use Rattle.sketch_text.specs.Trees.{Line, of_marks, of_node}
use Rattle.sketch_body.specs.Bodies.{AreTextsOf, Body, Item, SayEach, items_of, of_line, of_prices, units_of, units_of_line}
use Rattle.sketch_body.specs.Texts.{is_item}
use Rattle.sketch_body.specs.Whole.{is_body}
use Rattle.sketch_body.proofs.Closing.{says_is}

each_short : (P : ℕ) (texts : List (List ℕ)) (is : List Item) → P ≤ 64 → SayEach P texts is → length (concat (map ended texts)) ≤ 256 * length is
each_short P [] [] low said = omega arith
each_short P [] (i ∷ is) low said = absurd said
each_short P (text ∷ texts) [] low said = absurd said
each_short P (text ∷ texts) (i ∷ is) low said =
    let own = says_is P text i said.0 in
    omega (arith, ap length own.text_is, item_short P i low own.known, each_short P texts is low said.1, length-append (ended text) (concat (map ended texts)), length-append text (10 ∷ []))

some_figure : (figures : List ℕ) → is_some_figure figures ≡ true → 1 ≤ length figures
some_figure [] some = cc
some_figure (f ∷ figures) some = omega arith

each_counts : (P : ℕ) (prices : List PriceList) (lines : List Line) → list_all (is_item P) (map (λ p. of_prices p) prices ++ map (λ l. of_line l) lines) ≡ true → length (map (λ p. of_prices p) prices ++ map (λ l. of_line l) lines) ≤ length prices + sum_by units_of_line lines
each_counts P [] [] known = omega arith
each_counts P [] (of_node x ∷ lines) known =
    omega (arith, sum_by-cons units_of_line (of_node x) lines, each_counts P [] lines (and_parts _ _ known).1)
each_counts P [] (of_marks m ∷ lines) known =
    let own = and_parts _ _ known in
    let figure = and_parts _ _ (and_parts _ _ own.0).0 in
    omega (arith, sum_by-cons units_of_line (of_marks m) lines, some_figure m.figures figure.1, each_counts P [] lines own.1)
each_counts P (p ∷ prices) lines known = omega (arith, each_counts P prices lines (and_parts _ _ known).1)

-- they fill two lines of 128 bytes for each unit at most
pub sketch_short : (b : Body) (texts : List (List ℕ)) → AreTextsOf texts b → is_body b ≡ true → length (concat (map ended texts)) ≤ 256 * units_of b
sketch_short b texts are fit =
    let parts = and_parts _ _ fit in
    let few : length b.prices ≤ 64 = leb-true (length b.prices) 64 (and_parts _ (are_files 0 b.files) parts.0).0 in
    let each = and_parts _ _ parts.1 in
    omega (arith, each_short (length b.prices) texts (items_of b) few are.said, each_counts (length b.prices) b.prices b.lines each.0)
