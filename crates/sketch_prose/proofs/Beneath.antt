-- The lines of the nodes below one, and what is told of them together.
use Rattle.std.proofs.Common.{◌≡◌, ℕ, ◌+◌, ◌<◌, ◌≤◌, ◌==◌, true, false, List, [], ◌∷◌, ◌++◌, append_assoc, append-nil, length, map, refl, ap, sym, ◌∙◌, subst, arith}
use Rattle.std.proofs.lemmas.Bool.{both_ways, eqb-true}
use Rattle.std.proofs.lemmas.List.{length-append}
use Rattle.general_lemmas.proofs.Lists.{same_first, same_rest}
use Rattle.sketch_checker.specs.DueNodes.{Due}
use Rattle.sketch_checker.specs.Walks.{AreDue}
use Rattle.sketch_proof.specs.Proofs.{Holds, Setting}
use Rattle.sketch_prose.specs.Behind.{AddsChild, count_below, due_behind, is_past}
use Rattle.sketch_prose.specs.Children.{AreChildren}
use Rattle.sketch_prose.specs.Leaves.{own_line}
use Rattle.sketch_text.specs.Marks.{Marks}
use Rattle.sketch_text.specs.Trees.{Line, Node, Nodes, Reason, closed, count, end_of, lines_below, lines_each, lines_of, more, node, none, of_marks, of_node, split, steps, void}
use Rattle.sketch_words.specs.declared.spots.Child.{Child}

-- BEHIND A NODE

-- So many nodes are due, and before their lines those of some marks come; behind them comes the line of another node.
pub record NodesLeft (y : Node) (rest : List Line) (lines : List Line) (due : ℕ) : Type 0 where
  pub marks : List Marks
  pub nodes : Nodes
  pub many : count nodes ≡ due
  pub lines_are : lines ≡ map (λ m. of_marks m) marks ++ (lines_each nodes ++ (lines_of y ++ rest))

pub left-first : (x y : Node) (rest lines : List Line) → lines ≡ lines_of x ++ (lines_of y ++ rest) → NodesLeft y rest lines 1
left-first x y rest lines e = record {
  marks = [];
  nodes = more x none;
  many = refl;
  lines_are = e ∙ ap (λ (l : List Line). l ++ (lines_of y ++ rest)) (sym (append-nil (lines_of x)));
}

-- none is due: the next line is that of the other node
pub left-past : (y : Node) (rest : List Line) (l : Line) (lines : List Line) (due : ℕ) → NodesLeft y rest (l ∷ lines) due → is_past due l ≡ true → l ∷ lines ≡ lines_of y ++ rest
left-past y rest l lines due it past = by_marks it.marks it.lines_are
  where
    by_marks : (ms : List Marks) → l ∷ lines ≡ map (λ m. of_marks m) ms ++ (lines_each it.nodes ++ (lines_of y ++ rest)) → l ∷ lines ≡ lines_of y ++ rest
    by_marks [] e = by_nodes it.nodes it.many e
      where
        by_nodes : (ns : Nodes) → count ns ≡ due → l ∷ lines ≡ lines_each ns ++ (lines_of y ++ rest) → l ∷ lines ≡ lines_of y ++ rest
        by_nodes none many e = e
        by_nodes (more x ns) many e = absurd (never l past)
          where
            never : (z : Line) → is_past due z ≡ true → ⊥
            never (of_node z) h = let zero_ : due ≡ 0 = eqb-true due 0 h in omega (arith, many, zero_)
            never (of_marks m) h = cc
    by_marks (m ∷ ms) e = absurd (other (subst (λ (z : Line). is_past due z ≡ true) (same_first e) past))
      where
        other : is_past due (of_marks m) ≡ true → ⊥
        other h = cc

abbrev joined : Nodes → Nodes → Nodes
joined none b = b
joined (more x a) b = more x (joined a b)

joined-count : (a b : Nodes) → count (joined a b) ≡ count a + count b
joined-count none b = omega arith
joined-count (more x a) b = let later : count (joined a b) ≡ count a + count b = joined-count a b in omega (arith, later)

joined-lines : (a b : Nodes) → lines_each (joined a b) ≡ lines_each a ++ lines_each b
joined-lines none b = refl
joined-lines (more x a) b = ap (λ (l : List Line). lines_of x ++ l) (joined-lines a b) ∙ sym (append_assoc (lines_of x) (lines_each a) (lines_each b))

abbrev nodes_below : Reason → Nodes
nodes_below void = none
nodes_below (closed k) = none
nodes_below (steps ns) = ns
nodes_below (split s a b c) = more a (more b (more c none))

below-count : (r : Reason) → count (nodes_below r) ≡ count_below (end_of r)
below-count void = refl
below-count (closed k) = refl
below-count (steps ns) = refl
below-count (split s a b c) = refl

below-lines : (r : Reason) → lines_below r ≡ lines_each (nodes_below r)
below-lines void = refl
below-lines (closed k) = refl
below-lines (steps ns) = refl
below-lines (split s a b c) = ap (λ (l : List Line). lines_of a ++ (lines_of b ++ l)) (sym (append-nil (lines_of c)))

-- behind a line that isn't past
pub left-on : (y : Node) (rest : List Line) (l : Line) (lines : List Line) (due : ℕ) → NodesLeft y rest (l ∷ lines) due → is_past due l ≡ false → NodesLeft y rest lines (due_behind due l)
left-on y rest l lines due it past = by_marks it.marks it.lines_are
  where
    tail : List Line
    tail = lines_of y ++ rest

    by_marks : (ms : List Marks) → l ∷ lines ≡ map (λ m. of_marks m) ms ++ (lines_each it.nodes ++ tail) → NodesLeft y rest lines (due_behind due l)
    by_marks (m ∷ ms) e =
        let here : l ≡ of_marks m = same_first e in
        subst (λ (z : Line). NodesLeft y rest lines (due_behind due z)) (sym here) (record { marks = ms; nodes = it.nodes; many = it.many; lines_are = same_rest e })
    by_marks [] e = by_nodes it.nodes it.many e
      where
        by_nodes : (ns : Nodes) → count ns ≡ due → l ∷ lines ≡ lines_each ns ++ tail → NodesLeft y rest lines (due_behind due l)
        by_nodes none many h = absurd (never y h)
          where
            never : (z : Node) → l ∷ lines ≡ lines_of z ++ rest → ⊥
            never (node label marks reason) k =
                let here : is_past due (of_node (own_line (node label marks reason))) ≡ false = ap (λ (x : Line). is_past due x) (sym (same_first k)) ∙ past in
                let zero_ : due ≡ 0 = sym many in
                both_ways (due == 0) here (ap (λ (n : ℕ). n == 0) zero_)
        by_nodes (more (node label marks reason) ns) many h =
            let own : l ≡ of_node (own_line (node label marks reason)) = same_first h in
            let behind_ : lines ≡ map (λ m. of_marks m) marks ++ (lines_below reason ++ (lines_each ns ++ tail)) =
            same_rest h
            ∙ append_assoc (map (λ m. of_marks m) marks ++ lines_below reason) (lines_each ns) tail
            ∙ append_assoc (map (λ m. of_marks m) marks) (lines_below reason) (lines_each ns ++ tail) in
            let counts : count (joined (nodes_below reason) ns) ≡ count (nodes_below reason) + count ns = joined-count (nodes_below reason) ns in
            let below : count (nodes_below reason) ≡ count_below (end_of reason) = below-count reason in
            subst (λ (z : Line). NodesLeft y rest lines (due_behind due z)) (sym own)
            (record {
              marks = marks;
              nodes = joined (nodes_below reason) ns;
              many = omega (arith, many, counts, below);
              lines_are = behind_
                  ∙ ap (λ (k : List Line). map (λ m. of_marks m) marks ++ (k ++ (lines_each ns ++ tail))) (below-lines reason)
                  ∙ ap (λ (k : List Line). map (λ m. of_marks m) marks ++ k) (sym (append_assoc (lines_each (nodes_below reason)) (lines_each ns) tail))
                  ∙ ap (λ (k : List Line). map (λ m. of_marks m) marks ++ (k ++ tail)) (sym (joined-lines (nodes_below reason) ns));
            })

-- each node has a line
each-line : (ns : Nodes) → count ns ≤ length (lines_each ns)
each-line none = omega arith
each-line (more (node label marks reason) ns) =
    let later : count ns ≤ length (lines_each ns) = each-line ns in
    let sizes = length-append (map (λ m. of_marks m) marks ++ lines_below reason) (lines_each ns) in
    omega (arith, later, sizes)

pub left-few : (y : Node) (rest lines : List Line) (due : ℕ) → NodesLeft y rest lines due → due ≤ length lines
left-few y rest lines due it =
    let one : count it.nodes ≤ length (lines_each it.nodes) = each-line it.nodes in
    let first = length-append (map (λ m. of_marks m) it.marks) (lines_each it.nodes ++ (lines_of y ++ rest)) in
    let second = length-append (lines_each it.nodes) (lines_of y ++ rest) in
    let whole : length lines ≡ length (map (λ m. of_marks m) it.marks ++ (lines_each it.nodes ++ (lines_of y ++ rest))) = ap (λ (l : List Line). length l) it.lines_are in
    let many : count it.nodes ≡ due = it.many in
    omega (arith, one, first, second, whole, many)

-- the other node's line is still to come
pub left-some : (y : Node) (rest : List Line) (due : ℕ) → NodesLeft y rest [] due → ⊥
left-some (node label marks reason) rest due it =
    let first = length-append (map (λ m. of_marks m) it.marks) (lines_each it.nodes ++ (lines_of (node label marks reason) ++ rest)) in
    let second = length-append (lines_each it.nodes) (lines_of (node label marks reason) ++ rest) in
    let whole : 0 ≡ length (map (λ m. of_marks m) it.marks ++ (lines_each it.nodes ++ (lines_of (node label marks reason) ++ rest))) = ap (λ (l : List Line). length l) it.lines_are in
    omega (arith, first, second, whole)

-- ONE AFTER ANOTHER

-- So many of the nodes are left, their lines are these if there are any, and with them those that were told are all.
pub record ChildrenSoFar (ns : Nodes) (g : Setting) (ds : List Due) (lines rest : List Line) (i total : ℕ) (left : List Due) (list : List Child) : Type 0 where
  pub nodes : Nodes
  pub many : count nodes + i ≡ total
  pub due : AreDue nodes g left
  pub lines_are : 0 < count nodes → lines ≡ lines_each nodes ++ rest
  pub goes : (cs : List Child) → AreChildren nodes g left cs → AreChildren ns g ds (list ++ cs)

pub children-begin : (ns : Nodes) (g : Setting) (ds : List Due) (lines rest : List Line) (total : ℕ) → count ns ≡ total → AreDue ns g ds → lines ≡ lines_each ns ++ rest → ChildrenSoFar ns g ds lines rest 0 total ds []
children-begin ns g ds lines rest total many due e = record { nodes = ns; many = omega (arith, many); due = due; lines_are = λ some. e; goes = λ cs it. it }

pub children-on : (ns : Nodes) (g : Setting) (ds : List Due) (lines later rest : List Line) (i total : ℕ) (d : Due) (left : List Due) (list new : List Child) → ChildrenSoFar ns g ds lines rest i total (d ∷ left) list → i < total → ((x : Node) (ms : Nodes) → lines ≡ lines_of x ++ (lines_each ms ++ rest) → Holds x g d.label d.sketch → AddsChild (own_line x) g d.label d.sketch list new) → ((x y : Node) (ms : Nodes) → lines ≡ lines_of x ++ (lines_of y ++ (lines_each ms ++ rest)) → later ≡ lines_of y ++ (lines_each ms ++ rest)) → ChildrenSoFar ns g ds later rest (i + 1) total left new
children-on ns g ds lines later rest i total d left list new so less adds behind_ = by_nodes so.nodes so.many so.due so.lines_are so.goes
  where
    by_nodes : (xs : Nodes) → count xs + i ≡ total → AreDue xs g (d ∷ left) → (0 < count xs → lines ≡ lines_each xs ++ rest) → ((cs : List Child) → AreChildren xs g (d ∷ left) cs → AreChildren ns g ds (list ++ cs)) → ChildrenSoFar ns g ds later rest (i + 1) total left new
    by_nodes none many due lines_are goes = absurd due
    by_nodes (more x ms) many due lines_are goes =
        let e : lines ≡ lines_of x ++ (lines_each ms ++ rest) = lines_are (omega arith) ∙ append_assoc (lines_of x) (lines_each ms) rest in
        let add = adds x ms e due.0 in
        record {
          nodes = ms;
          many = omega (arith, many);
          due = due.1;
          lines_are = next ms e;
          goes = λ cs it. subst (λ (l : List Child). AreChildren ns g ds l) (sym (ap (λ (l : List Child). l ++ cs) add.2 ∙ append_assoc list _ cs)) (goes _ (add.0, cs, add.1, refl, it));
        }
      where
        next : (zs : Nodes) → lines ≡ lines_of x ++ (lines_each zs ++ rest) → 0 < count zs → later ≡ lines_each zs ++ rest
        next none e some = absurd (let never : ⊥ = omega (arith, some) in never)
        next (more y zs) e some =
            behind_ x y zs (e ∙ ap (λ (l : List Line). lines_of x ++ l) (append_assoc (lines_of y) (lines_each zs) rest)) ∙ sym (append_assoc (lines_of y) (lines_each zs) rest)

pub children-end : (ns : Nodes) (g : Setting) (ds : List Due) (lines rest : List Line) (i total : ℕ) (left : List Due) (list : List Child) → ChildrenSoFar ns g ds lines rest i total left list → total ≤ i → AreChildren ns g ds list
children-end ns g ds lines rest i total left list so past = by_nodes so.nodes so.many so.goes
  where
    by_nodes : (xs : Nodes) → count xs + i ≡ total → ((cs : List Child) → AreChildren xs g left cs → AreChildren ns g ds (list ++ cs)) → AreChildren ns g ds list
    by_nodes none many goes = subst (λ (l : List Child). AreChildren ns g ds l) (append-nil list) (goes [] refl)
    by_nodes (more x xs) many goes = absurd (let never : ⊥ = omega (arith, many, past) in never)

-- while some are to come, a line is left and one is due
pub children-lines : (ns : Nodes) (g : Setting) (ds : List Due) (rest : List Line) (i total : ℕ) (left : List Due) (list : List Child) → ChildrenSoFar ns g ds [] rest i total left list → i < total → ⊥
children-lines ns g ds rest i total left list so less = by_nodes so.nodes so.many so.lines_are
  where
    by_nodes : (xs : Nodes) → count xs + i ≡ total → (0 < count xs → [] ≡ lines_each xs ++ rest) → ⊥
    by_nodes none many lines_are = omega (arith, many, less)
    by_nodes (more (node label marks reason) xs) many lines_are = never (lines_are (omega arith))
      where
        never : [] ≡ lines_each (more (node label marks reason) xs) ++ rest → ⊥
        never h = cc

pub children-due : (ns : Nodes) (g : Setting) (ds : List Due) (lines rest : List Line) (i total : ℕ) (list : List Child) → ChildrenSoFar ns g ds lines rest i total [] list → i < total → ⊥
children-due ns g ds lines rest i total list so less = by_nodes so.nodes so.many so.due
  where
    by_nodes : (xs : Nodes) → count xs + i ≡ total → AreDue xs g [] → ⊥
    by_nodes none many due = omega (arith, many, less)
    by_nodes (more x xs) many due = due

pub head-line : (x : Node) (l : Line) (lines rest : List Line) → l ∷ lines ≡ lines_of x ++ rest → l ≡ of_node (own_line x)
head-line (node label marks reason) l lines rest e = same_first e
