-- A node among those that are left.
use Rattle.std.proofs.Common.{◌≡◌, ℕ, ◌-◌, ◌<◌, List, [], ◌∷◌, ◌++◌, append_assoc, drop, map, refl, ap, sym, ◌∙◌, subst, arith}
use Rattle.std.specs.Prelude.{Option, Some, None}
use Rattle.std.proofs.lemmas.List.{drop_at, length-map}
use Rattle.general_lemmas.proofs.Lists.{same_first, same_rest}
use Rattle.figures.specs.Figures.{Sketch}
use Rattle.sketch_checker.specs.DueNodes.{Due}
use Rattle.sketch_checker.specs.Walks.{AreDue}
use Rattle.sketch_proof.specs.Proofs.{Setting}
use Rattle.sketch_prose.specs.Levels.{AreFit, AreLeft, GoesOn, IsHere, Level, NodeTold, back, behind, lines_under, marks_of}
use Rattle.sketch_prose.specs.Sentences.{Sentence}
use Rattle.sketch_words.specs.Phrases.{Spot}
use Rattle.sketch_prose.specs.Telling.{TellsEach, next_number}
use Rattle.sketch_prose.specs.Leaves.{leaf_of, own_line}
use Rattle.sketch_text.specs.Marks.{Marks}
use Rattle.sketch_text.specs.Trees.{Line, Node, Nodes, lines_each, lines_of, more, node, none, of_marks, of_node}
use Rattle.sketch_text.specs.declared.nodes.SketchNode.{SketchNode}
use Rattle.sketch_checker.proofs.Completing.{same-node}

abbrev pub level : Spot → ℕ → ℕ → List Due → Level
level at n c ds = record { spot = at; number = n; count = c; due = ds }

-- A NODE THAT IS DUE

own-first : (y : Node) (x : SketchNode) (lines rest : List Line) → of_node x ∷ lines ≡ lines_of y ++ rest → (x ≡ own_line y) × (lines ≡ map (λ m. of_marks m) (marks_of y) ++ (lines_under y ++ rest))
own-first (node label marks reason) x lines rest e = (
  same-node x _ (same_first e),
  same_rest e ∙ append_assoc (map (λ m. of_marks m) marks) (lines_under (node label marks reason)) rest,
)

-- what is known of the first node of the lowest level, if it is left
pub record FirstLeft (g : Setting) (c : ℕ) (d : Due) (ds : List Due) (vs : List Level) (fs : List Nodes) (x : SketchNode) (lines : List Line) : Type 0 where
  pub node : Node
  pub nodes : Nodes
  pub others : List Nodes
  pub rest : List Line
  pub forests : fs ≡ more node nodes ∷ others
  pub here : IsHere node nodes d g (c - 1) x lines rest
  pub due : AreDue nodes g ds
  pub fit : AreFit g.odds ds
  pub left : AreLeft g vs others rest

pub first-left : (g : Setting) (at : Spot) (n c : ℕ) (d : Due) (ds : List Due) (vs : List Level) (fs : List Nodes) (x : SketchNode) (lines : List Line) → 0 < c → AreLeft g (level at n c (d ∷ ds) ∷ vs) fs (of_node x ∷ lines) → FirstLeft g c d ds vs fs x lines
first-left g at n c d ds vs [] x lines some it = absurd it
first-left g at n c d ds vs (none ∷ fs) x lines some (rest, many, due, fit, e, later) = absurd due
first-left g at n c d ds vs (more y ns ∷ fs) x lines some (rest, many, due, fit, e, later) =
    let own = own-first y x lines (lines_each ns ++ rest) (e ∙ append_assoc (lines_of y) (lines_each ns) rest) in
    record {
      node = y;
      nodes = ns;
      others = fs;
      rest = rest;
      forests = refl;
      here = record { own = own.0; holds = due.0; fit = fit.0; siblings = omega (arith, many, some); lines_are = own.1 };
      due = due.1;
      fit = fit.1;
      left = later;
    }

-- none is left where none is due
pub none-left : (g : Setting) (at : Spot) (n c : ℕ) (vs : List Level) (fs : List Nodes) (lines : List Line) → 0 < c → AreLeft g (level at n c [] ∷ vs) fs lines → ⊥
none-left g at n c vs [] lines some it = it
none-left g at n c vs (none ∷ fs) lines some (rest, many, due, fit, e, later) = omega (arith, many, some)
none-left g at n c vs (more y ns ∷ fs) lines some (rest, many, due, fit, e, later) = due

-- BEHIND IT

under-left : (y : Node) (x : SketchNode) (lines rest : List Line) → x ≡ own_line y → lines ≡ map (λ m. of_marks m) (marks_of y) ++ (lines_under y ++ rest) → drop x.marks lines ≡ lines_under y ++ rest
under-left (node label marks reason) x lines rest own e =
    ap (λ (l : List Line). drop x.marks l) e
    ∙ drop_at (map (λ m. of_marks m) marks) (lines_under (node label marks reason) ++ rest) x.marks (length-map marks (λ m. of_marks m) ∙ sym (ap (λ (z : SketchNode). z.marks) own))

each-behind : (g : Setting) (at : Spot) (n : ℕ) (ds : List Due) (ns : Nodes) (x own : SketchNode) (ss : List Sentence) → x ≡ own → TellsEach ns g at (next_number (leaf_of x) n) ds ss → TellsEach ns g at (next_number (leaf_of own) n) ds ss
each-behind g at n ds ns x own ss same each = subst (λ (z : SketchNode). TellsEach ns g at (next_number (leaf_of z) n) ds ss) same each

-- what goes on behind a node that was told
pub node-goes : (g : Setting) (D : Sketch) (at : Spot) (n c : ℕ) (d : Due) (ds : List Due) (vs : List Level) (y : Node) (ns : Nodes) (fs : List Nodes) (x : SketchNode) (lines rest : List Line) (below : Option Level) (o r : List ℕ) → IsHere y ns d g (c - 1) x lines rest → AreDue ns g ds → AreFit g.odds ds → AreLeft g vs fs rest → NodeTold y g D at n d below o r → GoesOn g D (level at n c (d ∷ ds) ∷ vs) (more y ns ∷ fs) (back below (behind at n c ds (leaf_of x) ∷ vs)) (drop x.marks lines) o r
node-goes g D at n c d ds vs y ns fs x lines rest None o r here due fit later told = record {
  forests = ns ∷ fs;
  left = (rest, here.siblings, due, fit, under-left y x lines (lines_each ns ++ rest) here.own here.lines_are ∙ ap (λ (l : List Line). l ++ (lines_each ns ++ rest)) told.opens.0, later);
  said = told.said;
  so = told.so;
  tells = λ ss (a, b, e, each, all). (
    told.said ++ a,
    b,
    ap (λ (l : List Sentence). told.said ++ l) e ∙ sym (append_assoc told.said a b),
    (told.said, a, refl, told.opens.1, each-behind g at n ds ns x (own_line y) a here.own each),
    all,
  );
  text = told.text;
}
node-goes g D at n c d ds vs y ns fs x lines rest (Some v) o r here due fit later told =
    let opens = told.opens in
    record {
      forests = opens.0 ∷ ns ∷ fs;
      left = (
        lines_each ns ++ rest,
        opens.2,
        opens.3,
        opens.4,
        under-left y x lines (lines_each ns ++ rest) here.own here.lines_are ∙ ap (λ (l : List Line). l ++ (lines_each ns ++ rest)) opens.1,
        (rest, here.siblings, due, fit, refl, later),
      );
      said = told.said;
      so = told.so;
      tells = λ ss (a, b, e, each, (p, q, e', each', all)). (
        (told.said ++ a) ++ p,
        q,
        ap (λ (l : List Sentence). told.said ++ l) (e ∙ ap (λ (l : List Sentence). a ++ l) e') ∙ sym (append_assoc told.said a (p ++ q)) ∙ sym (append_assoc (told.said ++ a) p q),
        (told.said ++ a, p, refl, opens.5 a each, each-behind g at n ds ns x (own_line y) p here.own each'),
        all,
      );
      text = told.text;
    }

-- ONE STEP

-- what goes on behind the first node of a level, which was told
pub node-step : (g : Setting) (D : Sketch) (at : Spot) (n c : ℕ) (old : List Due) (d : Due) (ds : List Due) (v : Level) (vs : List Level) (fs : List Nodes) (x : SketchNode) (lines : List Line) (below : Option Level) (next : Level) (new : List Level) (o r : List ℕ) → level at n c old ≡ v → 0 < c → old ≡ d ∷ ds → next ≡ behind at n c ds (leaf_of x) → new ≡ back below (next ∷ vs) → ((y : Node) (ns : Nodes) (rest : List Line) → IsHere y ns d g (c - 1) x lines rest → NodeTold y g D at n d below o r) → AreLeft g (v ∷ vs) fs (of_node x ∷ lines) → GoesOn g D (v ∷ vs) fs new (drop x.marks lines) o r
node-step g D at n c old d ds v vs fs x lines below next new o r view some first next_is new_is told left =
    subst (λ (w : Level). AreLeft g (w ∷ vs) fs (of_node x ∷ lines) → GoesOn g D (w ∷ vs) fs new (drop x.marks lines) o r) view
    (subst (λ (l : List Due). AreLeft g (level at n c l ∷ vs) fs (of_node x ∷ lines) → GoesOn g D (level at n c l ∷ vs) fs new (drop x.marks lines) o r) (sym first) by-first)
    left
  where
    by-first : AreLeft g (level at n c (d ∷ ds) ∷ vs) fs (of_node x ∷ lines) → GoesOn g D (level at n c (d ∷ ds) ∷ vs) fs new (drop x.marks lines) o r
    by-first it =
        let l = first-left g at n c d ds vs fs x lines some it in
        let goes = node-goes g D at n c d ds vs l.node l.nodes l.others x lines l.rest below o r l.here l.due l.fit l.left (told l.node l.nodes l.rest l.here) in
        subst (λ (z : List Nodes). GoesOn g D (level at n c (d ∷ ds) ∷ vs) z new (drop x.marks lines) o r) (sym l.forests)
        (subst (λ (z : List Level). GoesOn g D (level at n c (d ∷ ds) ∷ vs) (more l.node l.nodes ∷ l.others) z (drop x.marks lines) o r) (sym (new_is ∙ ap (λ (w : Level). back below (w ∷ vs)) next_is)) goes)

-- if none is due, none is left
pub node-none : (g : Setting) (at : Spot) (n c : ℕ) (old : List Due) (v : Level) (vs : List Level) (fs : List Nodes) (lines : List Line) → level at n c old ≡ v → 0 < c → old ≡ [] → AreLeft g (v ∷ vs) fs lines → ⊥
node-none g at n c old v vs fs lines view some none_ left =
    none-left g at n c vs fs lines some
    (subst (λ (l : List Due). AreLeft g (level at n c l ∷ vs) fs lines) none_ (subst (λ (w : Level). AreLeft g (w ∷ vs) fs lines) (sym view) left))

-- a line of marks is never the first
pub marks-never : (g : Setting) (v : Level) (vs : List Level) (fs : List Nodes) (m : Marks) (lines : List Line) → 0 < v.count → AreLeft g (v ∷ vs) fs (of_marks m ∷ lines) → ⊥
marks-never g v vs [] m lines some it = it
marks-never g v vs (none ∷ fs) m lines some (rest, many, due, fit, e, later) = omega (arith, many, some)
marks-never g v vs (more (node label marks reason) ns ∷ fs) m lines some (rest, many, due, fit, e, later) = other (same_first e)
  where
    other : of_marks m ≡ of_node (own_line (node label marks reason)) → ⊥
    other h = cc

-- nothing is left at no level
pub lines-never : (g : Setting) (fs : List Nodes) (l : Line) (lines : List Line) → AreLeft g [] fs (l ∷ lines) → ⊥
lines-never g [] l lines it = cc
lines-never g (ns ∷ fs) l lines it = it
