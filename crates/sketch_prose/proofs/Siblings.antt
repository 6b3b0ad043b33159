-- How a node among its siblings is told.
use Rattle.std.proofs.Common.{◌≡◌, ℕ, ◌==◌, Bool, true, false, cond, ◌&&◌, not, List, [], ◌∷◌, ◌++◌, append_assoc, append-nil, length, map, refl, ap, sym, ◌∙◌, subst, arith}
use Rattle.std.specs.Prelude.{Option, Some, None}
use Rattle.std.proofs.lemmas.Bool.{eqb-true}
use Rattle.sketch_grounds.proofs.Refutes.{no-game}
use Rattle.figures.specs.Figures.{Sketch}
use Rattle.sketch_body.specs.Bodies.{is_now}
use Rattle.sketch_checker.specs.DueNodes.{Due}
use Rattle.sketch_proof.proofs.Sound.{node-refutes}
use Rattle.sketch_proof.specs.Proofs.{AreAllForced, Ends, Holds, Setting, with_lines}
use Rattle.sketch_prose.proofs.Adding.{say-append, text-append, text-one}
use Rattle.sketch_prose.specs.Bases.{AreKnown}
use Rattle.sketch_prose.specs.Levels.{IsFit, IsHere, Level, NodeTold, OpenTold, OpensBelow, OpensNode}
use Rattle.sketch_prose.specs.Sentences.{FitsNone, Sentence, numbered, unmoved}
use Rattle.sketch_words.specs.Phrases.{Spot, heading_words}
use Rattle.sketch_prose.specs.Telling.{TellsAs, TellsBelow, TellsOne, head_told, known_with, marks_told, spot_below}
use Rattle.sketch_prose.specs.Leaves.{end_leaf, leaf_of, own_line}
use Rattle.sketch_prose.specs.declared.leaves.Leaf.{Leaf}
use Rattle.sketch_prose.specs.declared.leaves.Leaf.TheVariants.{Shut, Astray, Open}
use Rattle.sketch_proof.proofs.Refuting.{tree-refutes}
use Rattle.sketch_text.specs.Marks.{Marks}
use Rattle.sketch_text.specs.Trees.{Line, Node, Nodes, Reason, closed, end_of, lines_below, lines_each, node, of_marks, split, steps, void}
use Rattle.sketch_text.specs.declared.labels.Label.{Label}
use Rattle.sketch_text.specs.declared.nodes.SketchNode.{SketchNode}

-- WHAT A LEAF IS

-- the leaf of a node with so many marks
abbrev leaf_with : Bool → Bool → Leaf → Leaf
leaf_with free now leaf = cond (free && not now) leaf Open

with-shut : (free now : Bool) (leaf : Leaf) (k : ℕ) → leaf_with free now leaf ≡ Shut k → (free ≡ true) × (leaf ≡ Shut k)
with-shut true true leaf k e = absurd (never k e)
  where
    never : (k : ℕ) → Open ≡ Shut k → ⊥
    never k e = cc
with-shut true false leaf k e = (refl, e)
with-shut false now leaf k e = absurd (never k e)
  where
    never : (k : ℕ) → Open ≡ Shut k → ⊥
    never k e = cc

with-astray : (free now : Bool) (leaf : Leaf) → leaf_with free now leaf ≡ Astray → (free ≡ true) × (leaf ≡ Astray)
with-astray true true leaf e = absurd (never e)
  where
    never : Open ≡ Astray → ⊥
    never e = cc
with-astray true false leaf e = (refl, e)
with-astray false now leaf e = absurd (never e)
  where
    never : Open ≡ Astray → ⊥
    never e = cc

no-marks : (ms : List Marks) → (length ms == 0) ≡ true → ms ≡ []
no-marks [] e = refl
no-marks (m ∷ ms) e = absurd (let zero_ : length (m ∷ ms) ≡ 0 = eqb-true (length (m ∷ ms)) 0 e in let never : ⊥ = omega (arith, zero_) in never)

end-shut : (r : Reason) (k : ℕ) → end_leaf (end_of r) ≡ Shut k → r ≡ closed k
end-shut void k e = absurd (let never : Astray ≡ Shut k → ⊥ = λ h. cc in never e)
end-shut (closed j) k e = ap closed (same j k e)
  where
    same : (j k : ℕ) → Shut j ≡ Shut k → j ≡ k
    same j k e = cc
end-shut (steps ns) k e = absurd (let never : Open ≡ Shut k → ⊥ = λ h. cc in never e)
end-shut (split s a b c) k e = absurd (let never : Open ≡ Shut k → ⊥ = λ h. cc in never e)

end-astray : (r : Reason) → end_leaf (end_of r) ≡ Astray → r ≡ void
end-astray void e = refl
end-astray (closed j) e = absurd (let never : Shut j ≡ Astray → ⊥ = λ h. cc in never e)
end-astray (steps ns) e = absurd (let never : Open ≡ Astray → ⊥ = λ h. cc in never e)
end-astray (split s a b c) e = absurd (let never : Open ≡ Astray → ⊥ = λ h. cc in never e)

-- what is known of a node that an account shuts
pub shut-is : (x : Node) (k : ℕ) → leaf_of (own_line x) ≡ Shut k → (l : Label) × (x ≡ node l [] (closed k))
shut-is (node l ms r) k e =
    let parts = with-shut (length ms == 0) (is_now l) (end_leaf (end_of r)) k e in
    (l, ap (λ (m : List Marks). node l m r) (no-marks ms parts.0) ∙ ap (λ (z : Reason). node l [] z) (end-shut r k parts.1))

pub astray-is : (x : Node) → leaf_of (own_line x) ≡ Astray → (l : Label) × (x ≡ node l [] void)
astray-is (node l ms r) e =
    let parts = with-astray (length ms == 0) (is_now l) (end_leaf (end_of r)) e in
    (l, ap (λ (m : List Marks). node l m r) (no-marks ms parts.0) ∙ ap (λ (z : Reason). node l [] z) (end-astray r parts.1))

-- a node is told by itself
abbrev Alone : Label → List Marks → Reason → Setting → Spot → ℕ → Due → List Sentence → Type 0
Alone l ms r g at n d ss =
    (below : List Sentence) × (ss ≡ head_told g at n d ms ++ below) × TellsBelow r g (spot_below l at n (known_with g ms d.sketch)) (with_lines ms d.sketch) below

tells-as : (l : Label) (ms : List Marks) (r : Reason) (g : Setting) (at : Spot) (n : ℕ) (d : Due) (ss : List Sentence) (leaf : Leaf) → leaf_of (own_line (node l ms r)) ≡ leaf → TellsAs leaf (Alone l ms r g at n d ss) ss → TellsOne (node l ms r) g at n d ss
tells-as l ms r g at n d ss leaf e told = subst (λ (z : Leaf). TellsAs z (Alone l ms r g at n d ss) ss) (sym e) told

-- IN A LINE WITH SIBLINGS

shut-at : (l : Label) (k : ℕ) (g : Setting) (D : Sketch) (at : Spot) (n : ℕ) (d : Due) (o : List ℕ) → leaf_of (own_line (node l [] (closed k))) ≡ Shut k → NodeTold (node l [] (closed k)) g D at n d None o o
shut-at l k g D at n d o leaf = record {
  said = [];
  so = tt;
  opens = (refl, tells-as l [] (closed k) g at n d [] (Shut k) leaf refl);
  text = sym (append-nil o);
}

pub shut-told : (x : Node) (k : ℕ) (ns : Nodes) (g : Setting) (D : Sketch) (at : Spot) (n c : ℕ) (d : Due) (line : SketchNode) (lines rest : List Line) (o : List ℕ) → leaf_of line ≡ Shut k → IsHere x ns d g c line lines rest → NodeTold x g D at n d None o o
shut-told x k ns g D at n c d line lines rest o leaf here =
    let own : leaf_of (own_line x) ≡ Shut k = ap leaf_of (sym here.own) ∙ leaf in
    let is = shut-is x k own in
    subst (λ (y : Node). leaf_of (own_line y) ≡ Shut k → NodeTold y g D at n d None o o) (sym is.1) (λ leaf_. shut-at is.0 k g D at n d o leaf_) own

astray-at : (l : Label) (g : Setting) (D : Sketch) (at : Spot) (n : ℕ) (d : Due) (o : List ℕ) → leaf_of (own_line (node l [] void)) ≡ Astray → NodeTold (node l [] void) g D at n d None o o
astray-at l g D at n d o leaf = record {
  said = [];
  so = tt;
  opens = (refl, tells-as l [] void g at n d [] Astray leaf refl);
  text = sym (append-nil o);
}

pub astray-told : (x : Node) (ns : Nodes) (g : Setting) (D : Sketch) (at : Spot) (n c : ℕ) (d : Due) (line : SketchNode) (lines rest : List Line) (o : List ℕ) → leaf_of line ≡ Astray → IsHere x ns d g c line lines rest → NodeTold x g D at n d None o o
astray-told x ns g D at n c d line lines rest o leaf here =
    let own : leaf_of (own_line x) ≡ Astray = ap leaf_of (sym here.own) ∙ leaf in
    let is = astray-is x own in
    subst (λ (y : Node). leaf_of (own_line y) ≡ Astray → NodeTold y g D at n d None o o) (sym is.1) (λ leaf_. astray-at is.0 g D at n d o leaf_) own

-- OPEN

fits-none : (x : Node) (g : Setting) (d : Due) → AreKnown g.prices → IsFit g.odds d.sketch → Holds x g d.label d.sketch → FitsNone g d.sketch
fits-none x g d known fit holds =
    let tree = node-refutes x g d.label d.sketch known fit.whole holds in
    no-game g.odds g.held d.sketch (tree-refutes tree.0 g.odds g.held g.exact d.sketch tree.1)

tells-open : (ms : List Marks) (r : Reason) (g : Setting) (l : Label) (at : Spot) (n : ℕ) (d : Due) (ss below : List Sentence) → leaf_of (own_line (node l ms r)) ≡ Open → ss ≡ head_told g at n d ms ++ below → TellsBelow r g (spot_below l at n (known_with g ms d.sketch)) (with_lines ms d.sketch) below → TellsOne (node l ms r) g at n d ss
tells-open ms r g l at n d ss below leaf e told = tells-as l ms r g at n d ss Open leaf (below, e, told)

open-opens : (ms : List Marks) (r : Reason) (g : Setting) (l : Label) (at : Spot) (n : ℕ) (d : Due) (said : List Sentence) (below : Option Level) → leaf_of (own_line (node l ms r)) ≡ Open → OpensBelow r g (spot_below l at n (known_with g ms d.sketch)) (with_lines ms d.sketch) said below → OpensNode (node l ms r) g at n d (head_told g at n d ms ++ said) below
open-opens ms r g l at n d said None leaf it = (it.0, tells-open ms r g l at n d (head_told g at n d ms ++ said) said leaf refl it.1)
open-opens ms r g l at n d said (Some v) leaf it = (
  it.0,
  it.1,
  it.2,
  it.3,
  it.4,
  λ ss each. tells-open ms r g l at n d ((head_told g at n d ms ++ said) ++ ss) (said ++ ss) leaf (append_assoc (head_told g at n d ms) said ss) (it.5 ss each),
)

open-at : (l : Label) (ms : List Marks) (z : Reason) (g : Setting) (D : Sketch) (at : Spot) (n : ℕ) (d : Due) (below : Option Level) (o q r : List ℕ) → leaf_of (own_line (node l ms z)) ≡ Open → FitsNone g d.sketch → q ≡ o ++ heading_words at n d.label → OpenTold ms z g D l at n d.sketch below q r → NodeTold (node l ms z) g D at n d below o r
open-at l ms z g D at n d below o q r leaf fits text told =
    let H : List Sentence = unmoved at.known d.sketch ∷ marks_told g ms d.sketch in
    let E : List Sentence = told.ends.said in
    record {
      said = numbered at n d ∷ (H ++ E);
      so = (fits, say-append g H E told.head.0 told.ends.so);
      opens = open-opens ms z g l at n d E below leaf told.ends.opens;
      text = text-append g D (numbered at n d ∷ []) (H ++ E) o q r (text-one g D (numbered at n d) o q text) (text-append g D H E q told.middle r told.head.1 told.ends.text);
    }

pub open-told : (x : Node) (ns : Nodes) (g : Setting) (D : Sketch) (at : Spot) (n c : ℕ) (d : Due) (line : SketchNode) (lines rest : List Line) (below : Option Level) (o q r : List ℕ) → AreKnown g.prices → leaf_of line ≡ Open → IsHere x ns d g c line lines rest → q ≡ o ++ heading_words at n line.label → ((ms : List Marks) (z : Reason) (more_ : List Line) → lines ≡ map (λ m. of_marks m) ms ++ (lines_below z ++ more_) → length ms ≡ line.marks → line.end ≡ end_of z → AreAllForced g ms d.sketch → Ends z g (with_lines ms d.sketch) → IsFit g.odds d.sketch → OpenTold ms z g D line.label at n d.sketch below q r) → NodeTold x g D at n d below o r
open-told (node l ms z) ns g D at n c d line lines rest below o q r known leaf here text open_ =
    let label : line.label ≡ l = ap (λ (y : SketchNode). y.label) here.own in
    let told = open_ ms z (lines_each ns ++ rest) here.lines_are (sym (ap (λ (y : SketchNode). y.marks) here.own)) (ap (λ (y : SketchNode). y.end) here.own) here.holds.1 here.holds.2 here.fit in
    open-at l ms z g D at n d below o q r (ap leaf_of (sym here.own) ∙ leaf) (fits-none (node l ms z) g d known here.fit here.holds) (text ∙ ap (λ (y : Label). o ++ heading_words at n y) (label ∙ here.holds.0))
    (subst (λ (y : Label). OpenTold ms z g D y at n d.sketch below q r) label told)
