-- The nodes below one that are told together.
use Rattle.std.proofs.Common.{◌≡◌, ℕ, Bool, true, false, cond, List, [], ◌∷◌, ◌++◌, append-nil, refl, ap, sym, ◌∙◌, subst}
use Rattle.std.specs.Prelude.{Option, Some, None}
use Rattle.figures.specs.Figures.{Sketch}
use Rattle.sketch_checker.specs.DueNodes.{Due}
use Rattle.sketch_checker.specs.Walks.{AreDue}
use Rattle.sketch_proof.specs.Proofs.{Holds, Setting}
use Rattle.sketch_prose.proofs.Adding.{say-append, words-append}
use Rattle.sketch_prose.proofs.Siblings.{astray-is, shut-is}
use Rattle.sketch_prose.specs.Children.{AreChildren, FlawOf, denials_told, first_told}
use Rattle.sketch_prose.specs.Leaves.{leaf_of, own_line}
use Rattle.sketch_prose.specs.Sentences.{AllSay, AreSo, IsSo, all_words, denied}
use Rattle.sketch_prose.specs.declared.leaves.Leaf.{Leaf}
use Rattle.sketch_prose.specs.declared.leaves.Leaf.TheVariants.{Shut, Astray, Open}
use Rattle.sketch_proof.specs.Nodes.{IsVoid}
use Rattle.sketch_text.specs.Trees.{Node, Nodes, closed, more, node, none, void}
use Rattle.sketch_text.specs.declared.labels.Label.{Label}
use Rattle.sketch_text.specs.declared.nodes.SketchNode.{SketchNode}
use Rattle.sketch_words.specs.Denials.{denials_words, denied_words, first_denied, is_told}
use Rattle.sketch_words.specs.Phrases.{Spot}
use Rattle.sketch_words.specs.declared.spots.Child.{Child}
use Rattle.sketch_words.specs.declared.spots.Flaw.{Flaw}
use Rattle.sketch_words.specs.declared.spots.Flaw.TheVariants.{Unbalanced, Foreign}

-- WHAT IS SO

same-flaw : (v w : Flaw) → Some v ≡ Some w → v ≡ w
same-flaw v w e = cc

no-flaw : (w : Flaw) → None ≡ Some w → ⊥
no-flaw w e = cc

one-so : (w : Flaw) (x : Node) (g : Setting) (d : Due) (v : Option Flaw) → Holds x g d.label d.sketch → FlawOf (leaf_of (own_line x)) g d.sketch v → v ≡ Some w → IsSo g w d.sketch
one-so w x g d v holds flaw is = by_leaf (leaf_of (own_line x)) refl flaw
  where
    by_leaf : (leaf : Leaf) → leaf_of (own_line x) ≡ leaf → FlawOf leaf g d.sketch v → IsSo g w d.sketch
    by_leaf (Shut k) e so =
        let own = shut-is x k e in
        let it : Holds (node own.0 [] (closed k)) g d.label d.sketch = subst (λ (y : Node). Holds y g d.label d.sketch) own.1 holds in
        subst (λ (u : Flaw). IsSo g u d.sketch) (same-flaw Unbalanced w (sym so ∙ is)) (k, it.2)
    by_leaf Astray e (s, foreign, so) = subst (λ (u : Flaw). IsSo g u d.sketch) (same-flaw (Foreign s) w (sym so ∙ is)) foreign
    by_leaf Open e so = absurd (no-flaw w (sym so ∙ is))

pub children-so : (w : Flaw) (ns : Nodes) (g : Setting) (ds : List Due) (cs : List Child) → AreDue ns g ds → AreChildren ns g ds cs → AreSo g w cs ds
children-so w none g [] cs due is = subst (λ (l : List Child). AreSo g w l []) (sym is) refl
children-so w none g (d ∷ ds) cs due is = absurd due
children-so w (more x ns) g [] cs due is = absurd due
children-so w (more x ns) g (d ∷ ds) cs due (v, rest, flaw, is, later) =
    subst (λ (l : List Child). AreSo g w l (d ∷ ds)) (sym is) (refl, one-so w x g d v due.0 flaw, children-so w ns g ds rest due.1 later)

first-so : (g : Setting) (at : Spot) (all_ : List Child) (ds : List Due) (before : List Child) (v : Option Flaw) → ((w : Flaw) → AreSo g w all_ ds) → AllSay g (first_told at all_ ds before v)
first-so g at all_ ds before None so = tt
first-so g at all_ ds before (Some w) so = by_told (is_told before w)
  where
    by_told : (b : Bool) → AllSay g (cond b [] (denied at all_ ds w ∷ []))
    by_told true = tt
    by_told false = (so w, tt)

pub denials-so : (g : Setting) (at : Spot) (all_ : List Child) (ds : List Due) (before cs : List Child) → ((w : Flaw) → AreSo g w all_ ds) → AllSay g (denials_told at all_ ds before cs)
denials-so g at all_ ds before [] so = tt
denials-so g at all_ ds before (c ∷ cs) so =
    say-append g (first_told at all_ ds before c.flaw) (denials_told at all_ ds (before ++ c ∷ []) cs) (first-so g at all_ ds before c.flaw so) (denials-so g at all_ ds (before ++ c ∷ []) cs so)

-- a node that is told as void is
pub astray-void : (x : Node) (g : Setting) (label : Label) (S : Sketch) (line : SketchNode) → line ≡ own_line x → leaf_of line ≡ Astray → Holds x g label S → IsVoid g.odds g.held S
astray-void x g label S line own leaf holds =
    let is = astray-is x (ap leaf_of (sym own) ∙ leaf) in
    let it : Holds (node is.0 [] void) g label S = subst (λ (y : Node). Holds y g label S) is.1 holds in
    it.2

-- the label of a node that holds is the one that is due
pub own-label : (x : Node) (g : Setting) (label : Label) (S : Sketch) (line : SketchNode) → line ≡ own_line x → Holds x g label S → line.label ≡ label
own-label (node l ms r) g label S line own holds = ap (λ (z : SketchNode). z.label) own ∙ holds.0

-- IN WORDS

first-words : (g : Setting) (D : Sketch) (at : Spot) (all_ : List Child) (ds : List Due) (before : List Child) (v : Option Flaw) → all_words g D (first_told at all_ ds before v) ≡ first_denied g.odds at all_ before v
first-words g D at all_ ds before None = refl
first-words g D at all_ ds before (Some w) = by_told (is_told before w)
  where
    by_told : (b : Bool) → all_words g D (cond b [] (denied at all_ ds w ∷ [])) ≡ cond b [] (denied_words g.odds at all_ w)
    by_told true = refl
    by_told false = append-nil (denied_words g.odds at all_ w)

pub denials-words : (g : Setting) (D : Sketch) (at : Spot) (all_ : List Child) (ds : List Due) (before cs : List Child) → all_words g D (denials_told at all_ ds before cs) ≡ denials_words g.odds at all_ before cs
denials-words g D at all_ ds before [] = refl
denials-words g D at all_ ds before (c ∷ cs) =
    words-append g D (first_told at all_ ds before c.flaw) (denials_told at all_ ds (before ++ c ∷ []) cs)
    ∙ ap (λ (l : List ℕ). l ++ all_words g D (denials_told at all_ ds (before ++ c ∷ []) cs)) (first-words g D at all_ ds before c.flaw)
    ∙ ap (λ (l : List ℕ). first_denied g.odds at all_ before c.flaw ++ l) (denials-words g D at all_ ds (before ++ c ∷ []) cs)
