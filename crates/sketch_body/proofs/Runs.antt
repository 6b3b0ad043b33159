-- Trees and their lines against what is due.
use Rattle.std.proofs.Common.{◌≡◌, ℕ, zero, suc, ◌+◌, ◌<◌, ◌≤◌, ◌&&◌, Bool, true, not, List, [], ◌∷◌, ◌++◌, length, map, nat_lt, refl, ap, ◌∙◌, arith}
use Rattle.std.specs.Prelude.{Option, Some, None}
use Rattle.std.specs.Option.{option_and_then}
use Rattle.std.proofs.lemmas.Bool.{and_from, and_parts, cond-true, lt-ltb, ltb-true}
use Rattle.sketch_text.specs.Marks.{Marks}
use Rattle.sketch_text.specs.Trees.{Line, Node, Nodes, Reason, closed, count, end_of, height, height_below, height_each, lines_below, lines_each, lines_of, more, node, none, of_marks, of_node, split, steps, void}
use Rattle.sketch_text.specs.declared.labels.Label.{Label}
use Rattle.sketch_text.specs.declared.nodes.SketchNode.{SketchNode}
use Rattle.sketch_body.specs.Bodies.{Item, are_never_now, is_never_below, is_never_now, is_now, of_line}
use Rattle.sketch_body.specs.Due.{Due, after_node, announced, fits_depth, fits_label, if_any, next, settled}

-- what is due of nodes and marks
abbrev pub at : ℕ → ℕ → List ℕ → Due
at P marks nodes = record { prices = P; wanted = 0; marks = marks; nodes = nodes }

abbrev pub items : List Line → List Item
items lines = map (λ l. of_line l) lines

-- what is due after these lines
abbrev pub run : Due → List Item → Option Due
run d [] = Some d
run d (i ∷ is) = option_and_then (λ e. run e is) (next d i)

-- what a node's line says
abbrev pub line_of : Label → List Marks → Reason → SketchNode
line_of label marks reason = record { label = label; marks = length marks; end = end_of reason }

abbrev mutual
  -- the nodes may stand at this depth and below
  pub Fits : ℕ → ℕ → Node → Type 0
  Fits P depth (node label marks reason) = (fits_depth P depth (line_of label marks reason) ≡ true) × FitsBelow P depth reason

  pub FitsBelow : ℕ → ℕ → Reason → Type 0
  FitsBelow P depth void = Unit {0}
  FitsBelow P depth (closed k) = Unit {0}
  FitsBelow P depth (steps ns) = FitsEach P (suc depth) ns
  FitsBelow P depth (split s knight rook queen) = Fits P (suc depth) knight × Fits P (suc depth) rook × Fits P (suc depth) queen

  pub FitsEach : ℕ → ℕ → Nodes → Type 0
  FitsEach P depth none = Unit {0}
  FitsEach P depth (more n ns) = Fits P depth n × FitsEach P depth ns

-- running

both : (a b : List Line) (rest : List Item) → items (a ++ b) ++ rest ≡ items a ++ (items b ++ rest)
both [] b rest = refl
both (l ∷ a) b rest = ap (λ (is : List Item). of_line l ∷ is) (both a b rest)

-- a node's lines of marks
marks_run : (P : ℕ) (nodes : List ℕ) (ms : List Marks) (lines : List Line) (rest : List Item) → run (at P (length ms) nodes) (items (map (λ m. of_marks m) ms ++ lines) ++ rest) ≡ run (at P 0 nodes) (items lines ++ rest)
marks_run P nodes [] lines rest = refl
marks_run P nodes (m ∷ ms) lines rest = marks_run P nodes ms lines rest

mutual
  -- the lines of a node that is due
  pub node_runs : (n : Node) (P c : ℕ) (nodes : List ℕ) (rest : List Item) → Fits P (length nodes) n → run (at P 0 (suc c ∷ nodes)) (items (lines_of n) ++ rest) ≡ run (at P 0 (settled (c ∷ nodes))) rest
  node_runs (node label marks reason) P c nodes rest fits =
      let x : SketchNode = line_of label marks reason in
      let d : Due = at P (length marks) (settled (announced (end_of reason) ∷ c ∷ nodes)) in
      let here : after_node P (suc c ∷ nodes) x ≡ Some d = cond-true (fits_depth P (length nodes) x) (Some d) None fits.0 in
      ap (option_and_then (λ (e : Due). run e (items (map (λ m. of_marks m) marks ++ lines_below reason) ++ rest))) here
      ∙ marks_run P (settled (announced (end_of reason) ∷ c ∷ nodes)) marks (lines_below reason) rest
      ∙ below_runs reason P c nodes rest fits.1

  below_runs : (r : Reason) (P c : ℕ) (nodes : List ℕ) (rest : List Item) → FitsBelow P (length nodes) r → run (at P 0 (settled (announced (end_of r) ∷ c ∷ nodes))) (items (lines_below r) ++ rest) ≡ run (at P 0 (settled (c ∷ nodes))) rest
  below_runs void P c nodes rest fits = refl
  below_runs (closed k) P c nodes rest fits = refl
  below_runs (steps ns) P c nodes rest fits = each_runs ns P (c ∷ nodes) rest fits
  below_runs (split s knight rook queen) P c nodes rest fits =
      ap (run (at P 0 (3 ∷ c ∷ nodes))) (both (lines_of knight) (lines_of rook ++ lines_of queen) rest)
      ∙ node_runs knight P 2 (c ∷ nodes) (items (lines_of rook ++ lines_of queen) ++ rest) fits.0
      ∙ ap (run (at P 0 (2 ∷ c ∷ nodes))) (both (lines_of rook) (lines_of queen) rest)
      ∙ node_runs rook P 1 (c ∷ nodes) (items (lines_of queen) ++ rest) fits.1
      ∙ node_runs queen P 0 (c ∷ nodes) rest fits.2

  each_runs : (ns : Nodes) (P : ℕ) (nodes : List ℕ) (rest : List Item) → FitsEach P (length nodes) ns → run (at P 0 (settled (count ns ∷ nodes))) (items (lines_each ns) ++ rest) ≡ run (at P 0 (settled nodes)) rest
  each_runs none P nodes rest fits = refl
  each_runs (more n ns) P nodes rest fits =
      let one : count ns + 1 ≡ suc (count ns) = omega arith in
      ap (λ (k : ℕ). run (at P 0 (settled (k ∷ nodes))) (items (lines_of n ++ lines_each ns) ++ rest)) one
      ∙ ap (run (at P 0 (suc (count ns) ∷ nodes))) (both (lines_of n) (lines_each ns) rest)
      ∙ node_runs n P (count ns) nodes (items (lines_each ns) ++ rest) fits.0
      ∙ each_runs ns P nodes rest fits.1

-- which nodes fit

pub if_so : (n : ℕ) (so : Bool) → so ≡ true → if_any n so ≡ true
if_so zero so e = refl
if_so (suc n) so e = e

pub so_if : (n : ℕ) (so : Bool) → 0 < n → if_any n so ≡ true → so ≡ true
so_if zero so some e = absurd (omega arith)
so_if (suc n) so some e = e

-- there are lines of prices if there are marks, and each line of marks names a figure
abbrev pub Able : ℕ → List Line → Type 0
Able P [] = Unit {0}
Able P (of_node x ∷ lines) = Able P lines
Able P (of_marks m ∷ lines) = (0 < P) × (0 < length m.figures) × Able P lines

pub able_both : (P : ℕ) (a b : List Line) → Able P (a ++ b) → Able P a × Able P b
able_both P [] b able = (tt, able)
able_both P (of_node x ∷ a) b able = able_both P a b able
able_both P (of_marks m ∷ a) b able = let parts = able_both P a b able.2 in ((able.0, able.1, parts.0), parts.1)

marks_fit : (P : ℕ) (ms : List Marks) → Able P (map (λ m. of_marks m) ms) → if_any (length ms) (nat_lt 0 P) ≡ true
marks_fit P [] able = refl
marks_fit P (m ∷ ms) able = lt-ltb 0 P able.0

some_below : (r : Reason) (depth : ℕ) → height_below r + depth ≤ 64 → if_any (announced (end_of r)) (nat_lt depth 64) ≡ true
some_below void depth low = refl
some_below (closed k) depth low = refl
some_below (steps none) depth low = refl
some_below (steps (more n ns)) depth low = if_so (count ns + 1) (nat_lt depth 64) (lt-ltb depth 64 (omega arith))
some_below (split s knight rook queen) depth low = lt-ltb depth 64 (omega arith)

mutual
  pub node_fits : (n : Node) (P depth : ℕ) → is_never_now n ≡ true → height n + suc depth ≤ 64 → Able P (lines_of n) → Fits P (suc depth) n
  node_fits (node label marks reason) P depth never low able =
      let parts = and_parts (not (is_now label)) (is_never_below reason) never in
      let lines = able_both P (map (λ m. of_marks m) marks) (lines_below reason) able in (
        and_from _ _ parts.0 (and_from _ _ (some_below reason (suc depth) low) (marks_fit P marks lines.0)),
        below_fits reason P (suc depth) parts.1 low lines.1,
      )

  pub below_fits : (r : Reason) (P depth : ℕ) → is_never_below r ≡ true → height_below r + depth ≤ 64 → Able P (lines_below r) → FitsBelow P depth r
  below_fits void P depth never low able = tt
  below_fits (closed k) P depth never low able = tt
  below_fits (steps ns) P depth never low able = each_fits ns P depth never low able
  below_fits (split s knight rook queen) P depth never low able =
      let first = and_parts (is_never_now knight) (is_never_now rook && is_never_now queen) never in
      let second = and_parts (is_never_now rook) (is_never_now queen) first.1 in
      let one = able_both P (lines_of knight) (lines_of rook ++ lines_of queen) able in
      let two = able_both P (lines_of rook) (lines_of queen) one.1 in (
        node_fits knight P depth first.0 (omega arith) one.0,
        node_fits rook P depth second.0 (omega arith) two.0,
        node_fits queen P depth second.1 (omega arith) two.1,
      )

  each_fits : (ns : Nodes) (P depth : ℕ) → are_never_now ns ≡ true → height_each ns + depth ≤ 64 → Able P (lines_each ns) → FitsEach P (suc depth) ns
  each_fits none P depth never low able = tt
  each_fits (more n ns) P depth never low able =
      let parts = and_parts (is_never_now n) (are_never_now ns) never in
      let lines = able_both P (lines_of n) (lines_each ns) able in
      (node_fits n P depth parts.0 (omega arith) lines.0, each_fits ns P depth parts.1 (omega arith) lines.1)

-- the first node
pub first_fits : (label : Label) (marks : List Marks) (reason : Reason) (P : ℕ) → is_now label ≡ true → is_never_below reason ≡ true → height_below reason ≤ 64 → Able P (lines_of (node label marks reason)) → Fits P 0 (node label marks reason)
first_fits label marks reason P now never low able =
    let lines = able_both P (map (λ m. of_marks m) marks) (lines_below reason) able in
    let deep : height_below reason + 0 ≤ 64 = omega arith in (
      and_from _ _ now (and_from _ _ (some_below reason 0 deep) (marks_fit P marks lines.0)),
      below_fits reason P 0 never deep lines.1,
    )

-- what fits has these heights and labels

mutual
  pub node_low : (n : Node) (P depth : ℕ) → depth ≤ 64 → Fits P depth n → height n + depth ≤ 64
  node_low (node label marks reason) P depth low fits =
      let some = and_parts _ _ (and_parts (fits_label depth label) _ fits.0).1 in
      below_low reason P depth low some.0 fits.1

  below_low : (r : Reason) (P depth : ℕ) → depth ≤ 64 → if_any (announced (end_of r)) (nat_lt depth 64) ≡ true → FitsBelow P depth r → height_below r + depth ≤ 64
  below_low void P depth low some fits = omega arith
  below_low (closed k) P depth low some fits = omega arith
  below_low (steps none) P depth low some fits = omega arith
  below_low (steps (more n ns)) P depth low some fits =
      let deep : depth < 64 = ltb-true depth 64 (so_if (count ns + 1) (nat_lt depth 64) (omega arith) some) in
      each_low (more n ns) P depth (omega arith) fits
  below_low (split s knight rook queen) P depth low some fits =
      let deep : depth < 64 = ltb-true depth 64 some in
      omega (arith, node_low knight P (suc depth) (omega arith) fits.0, node_low rook P (suc depth) (omega arith) fits.1, node_low queen P (suc depth) (omega arith) fits.2)

  each_low : (ns : Nodes) (P depth : ℕ) → suc depth ≤ 64 → FitsEach P (suc depth) ns → height_each ns + depth ≤ 64
  each_low none P depth low fits = omega arith
  each_low (more n ns) P depth low fits = omega (arith, node_low n P (suc depth) low fits.0, each_low ns P depth low fits.1)

mutual
  pub node_never : (n : Node) (P depth : ℕ) → Fits P (suc depth) n → is_never_now n ≡ true
  node_never (node label marks reason) P depth fits = and_from _ _ (and_parts (not (is_now label)) _ fits.0).0 (below_never reason P (suc depth) fits.1)

  pub below_never : (r : Reason) (P depth : ℕ) → FitsBelow P depth r → is_never_below r ≡ true
  below_never void P depth fits = refl
  below_never (closed k) P depth fits = refl
  below_never (steps ns) P depth fits = each_never ns P depth fits
  below_never (split s knight rook queen) P depth fits = and_from _ _ (node_never knight P depth fits.0) (and_from _ _ (node_never rook P depth fits.1) (node_never queen P depth fits.2))

  each_never : (ns : Nodes) (P depth : ℕ) → FitsEach P (suc depth) ns → are_never_now ns ≡ true
  each_never none P depth fits = refl
  each_never (more n ns) P depth fits = and_from _ _ (node_never n P depth fits.0) (each_never ns P depth fits.1)
