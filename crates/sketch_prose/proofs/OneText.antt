-- A sketch has one text: the same sentences tell it.
use Rattle.std.proofs.Common.{◌≡◌, ℕ, ◌<◌, inl, inr, Bool, false, List, [], ◌∷◌, ◌++◌, map, refl, ap, sym, ◌∙◌, subst, arith}
use Rattle.std.proofs.lemmas.Bool.{cases_Bool, ltb-false, ltb-true}
use Rattle.std.specs.Prelude.{Option, Some, nat_lt}
use Rattle.std.specs.List.{Contains, list_any}
use Rattle.general_lemmas.proofs.Lists.{contains-first, contains-later}
use Rattle.board_base.specs.declared.men.Kind.{Kind}
use Rattle.figures.specs.Clashes.{is_nowhere}
use Rattle.figures.specs.Figures.{Figure, Sketch, figure_at, is_fixed_on, sketch_of}
use Rattle.figures.specs.Known.{known_at}
use Rattle.query_base.specs.Asked.{Asked}
use Rattle.sketch_body.specs.Bodies.{Body}
use Rattle.sketch_checker.proofs.Below.{first-one}
use Rattle.sketch_checker.proofs.Going.{earlier-somewhere, known-still, marked-still}
use Rattle.sketch_checker.proofs.OneTree.{one-tree}
use Rattle.sketch_checker.proofs.Rooted.{board-somewhere}
use Rattle.sketch_checker.specs.DueNodes.{Due, case_due, cases_from, due_of, first_due, kind_of}
use Rattle.sketch_grounds.proofs.Freezing.{figure-in, fixed-once}
use Rattle.sketch_list.specs.Listed.{Earlier, earlier}
use Rattle.sketch_proof.proofs.Least.{least-one}
use Rattle.sketch_proof.proofs.Whole.{AreWhole, board-whole, earlier-whole, known-whole, lines-whole}
use Rattle.sketch_proof.specs.Nodes.{marked_with}
use Rattle.sketch_proof.specs.Proofs.{Setting, with_lines}
use Rattle.sketch_prose.specs.Foreigners.{IsForeignIn}
use Rattle.sketch_prose.specs.Sentences.{Sentence, all_words, foreign, settled, stepped, unknown}
use Rattle.sketch_prose.specs.Children.{AreChildren, FlawOf, denials_told}
use Rattle.sketch_prose.specs.Leaves.{leaf_of, own_line}
use Rattle.sketch_prose.specs.Telling.{AddsSketch, TellsAs, TellsBelow, TellsEach, TellsOne, first_spot, head_told, known_with, next_number, setting_by, spot_below}
use Rattle.sketch_prose.specs.declared.leaves.Leaf.{Leaf}
use Rattle.sketch_prose.specs.declared.leaves.Leaf.TheVariants.{Shut, Astray, Open}
use Rattle.sketch_text.specs.Marks.{Marks}
use Rattle.sketch_text.specs.Trees.{Node, Nodes, Reason, closed, count, more, node, none, split, steps, void}
use Rattle.sketch_text.specs.declared.labels.Officer.TheVariants.{Knight, Rook, Queen}
use Rattle.sketch_words.specs.Phrases.{Spot, is_top}
use Rattle.sketch_words.specs.declared.spots.Child.{Child}
use Rattle.sketch_words.specs.declared.spots.Flaw.{Flaw}
use Rattle.sketch_words.specs.declared.spots.Flaw.TheVariants.{Foreign}

-- SKETCHES WITH SQUARES

-- each figure has a square, and all his squares are of the board
record HasSquares (S : Sketch) : Type 0 where
  whole : AreWhole S
  somewhere : list_any is_nowhere S ≡ false

abbrev AllHave : List Due → Type 0
AllHave [] = Unit {0}
AllHave (d ∷ ds) = HasSquares d.sketch × AllHave ds

lines-still : (ms : List Marks) (S : Sketch) → list_any is_nowhere (with_lines ms S) ≡ list_any is_nowhere S
lines-still [] S = refl
lines-still (m ∷ ms) S = lines-still ms (marked_with m.figures S) ∙ marked-still m.figures S

lines-have : (ms : List Marks) (S : Sketch) → HasSquares S → HasSquares (with_lines ms S)
lines-have ms S it = record { whole = lines-whole ms S it.whole; somewhere = lines-still ms S ∙ it.somewhere }

known-have : (i : ℕ) (k : Kind) (S : Sketch) → HasSquares S → HasSquares (known_at i k S)
known-have i k S it = record { whole = known-whole i k S it.whole; somewhere = known-still i k S ∙ it.somewhere }

each-have : (es : List Earlier) → ((e : Earlier) → Contains es e → HasSquares e.sketch) → AllHave (map due_of es)
each-have [] each = tt
each-have (e ∷ es) each = (each e (contains-first e es), each-have es (λ x there. each x (contains-later e es x there)))

steps-have : (o exact : List Bool) (T : Sketch) → AllHave (map due_of (earlier o exact T))
steps-have o exact T =
    each-have (earlier o exact T) (λ e there. record { whole = earlier-whole o exact T e there; somewhere = earlier-somewhere o exact T e there })

-- ONE MAN WHO NEVER MOVED

none-before : (o : List Bool) (S : Sketch) (set : List Bool) (s t : ℕ) (a : IsForeignIn o S set s) (b : IsForeignIn o S set t) → a.number < b.number → ⊥
none-before o S set s t a b less = a.other (b.first a.number less a.figure a.found s a.there a.fixed)

same-some : (f g : Figure) → Some f ≡ Some g → f ≡ g
same-some f g e = cc

one-foreign : (o : List Bool) (S : Sketch) (set : List Bool) (s t : ℕ) → AreWhole S → IsForeignIn o S set s → IsForeignIn o S set t → s ≡ t
one-foreign o S set s t whole a b = elim (cases_Bool (nat_lt a.number b.number)) [
  | inl less ↦ absurd (none-before o S set s t a b (ltb-true a.number b.number less))
  | inr no_ ↦ elim (cases_Bool (nat_lt b.number a.number)) [
    | inl more_ ↦ absurd (none-before o S set t s b a (ltb-true b.number a.number more_))
    | inr nor ↦ same (omega (arith, ltb-false a.number b.number no_, ltb-false b.number a.number nor))
  ]
]
  where
    same : a.number ≡ b.number → s ≡ t
    same number =
        let figure : a.figure ≡ b.figure = same-some a.figure b.figure (sym a.found ∙ ap (λ (i : ℕ). figure_at S i) number ∙ b.found) in
        fixed-once a.figure s t (whole a.figure (figure-in S a.number a.figure a.found)) a.fixed (ap (λ (f : Figure). is_fixed_on t f) figure ∙ b.fixed)

-- ONE LIST OF SENTENCES

-- as a leaf or by itself
one-as : (leaf : Leaf) (A B : Type 0) (ss ts : List Sentence) → (A → B → ss ≡ ts) → TellsAs leaf A ss → TellsAs leaf B ts → ss ≡ ts
one-as (Shut k) A B ss ts alone x y = x ∙ sym y
one-as Astray A B ss ts alone x y = x ∙ sym y
one-as Open A B ss ts alone x y = alone x y

-- one flaw of each of the nodes that are told together
one-flaw : (leaf : Leaf) (g : Setting) (S : Sketch) (v w : Option Flaw) → AreWhole S → FlawOf leaf g S v → FlawOf leaf g S w → v ≡ w
one-flaw (Shut k) g S v w whole x y = x ∙ sym y
one-flaw Astray g S v w whole (s, f, e) (t, h, e') = e ∙ ap (λ (u : ℕ). Some (Foreign u)) (one-foreign g.odds S _ s t whole f h) ∙ sym e'
one-flaw Open g S v w whole x y = x ∙ sym y

one-children : (ns : Nodes) (g : Setting) (ds : List Due) (cs es : List Child) → AllHave ds → AreChildren ns g ds cs → AreChildren ns g ds es → cs ≡ es
one-children none g ds cs es has x y = x ∙ sym y
one-children (more x ns) g [] cs es has is other = absurd is
one-children (more x ns) g (d ∷ ds) cs es has (v, rest, flaw, e, later) (w, rest', flaw', e', later') =
    let child : Option Flaw → Child = λ u. record { label = d.label; flaw = u } in
    e
    ∙ ap (λ (u : Option Flaw). child u ∷ rest) (one-flaw (leaf_of (own_line x)) g d.sketch v w has.0.whole flaw flaw')
    ∙ ap (λ (l : List Child). child w ∷ l) (one-children ns g ds rest rest' has.1 later later')
    ∙ sym e'

mutual
  one-node : (x : Node) (g : Setting) (at : Spot) (n : ℕ) (d : Due) (ss ts : List Sentence) → HasSquares d.sketch → TellsOne x g at n d ss → TellsOne x g at n d ts → ss ≡ ts
  one-node (node label marks reason) g at n d ss ts has =
      one-as (leaf_of (own_line (node label marks reason))) _ _ ss ts
      (λ (below, e, told) (below', e', told').
      e
      ∙ ap (λ (l : List Sentence). head_told g at n d marks ++ l) (one-end reason g (spot_below label at n (known_with g marks d.sketch)) (with_lines marks d.sketch) below below' (lines-have marks d.sketch has) told told')
      ∙ sym e')

  one-end : (r : Reason) (g : Setting) (at : Spot) (S : Sketch) (ss ts : List Sentence) → HasSquares S → TellsBelow r g at S ss → TellsBelow r g at S ts → ss ≡ ts
  one-end void g at S ss ts has (s, f, e) (t, h, e') = e ∙ ap (λ (u : ℕ). foreign u S ∷ []) (one-foreign g.odds S _ s t has.whole f h) ∙ sym e'
  one-end (closed k) g at S ss ts has x y = x ∙ sym y
  one-end (steps ns) g at S ss ts has (T, cs, rest, least, are, e, each) (U, es, rest', least', are', e', each') =
      let same : U ≡ T = least-one g.held g.exact S U T has.somewhere least' least in
      let due : Sketch → List Due = λ V. map due_of (earlier g.odds g.exact V) in
      let list : List Due = due T in
      let told : TellsEach ns g at 1 list rest' = subst (λ (V : Sketch). TellsEach ns g at 1 (due V) rest') same each' in
      let kids : cs ≡ es = one-children ns g list cs es (steps-have g.odds g.exact T) are (subst (λ (V : Sketch). AreChildren ns g (due V) es) same are') in
      let ways : Sketch → List Child → List Sentence → List Sentence = λ V l q. stepped (is_top at) S V (count ns) ∷ settled S V (count ns) ∷ (denials_told at l (due V) [] l ++ q) in
      e
      ∙ ap (λ (l : List Child). ways T l rest) kids
      ∙ ap (λ (q : List Sentence). ways T es q) (one-each ns g at 1 list rest rest' (steps-have g.odds g.exact T) each told)
      ∙ ap (λ (V : Sketch). ways V es rest') (sym same)
      ∙ sym e'
  one-end (split s knight rook queen) g at S ss ts has (i, cs, a, b, c, first, are, e, ta, tb, tc) (j, es, a', b', c', first', are', e', ta', tb', tc') =
      let same : j ≡ i = first-one S s j i first' first in
      let m : ℕ = next_number (leaf_of (own_line knight)) 1 in
      let n : ℕ = next_number (leaf_of (own_line rook)) m in
      let three : Nodes = more knight (more rook (more queen none)) in
      let have : AllHave (cases_from Knight i S) = (known-have i (kind_of Knight) S has, (known-have i (kind_of Rook) S has, (known-have i (kind_of Queen) S has, tt))) in
      let kids : cs ≡ es = one-children three g (cases_from Knight i S) cs es have are (subst (λ (k : ℕ). AreChildren three g (cases_from Knight k S) es) same are') in
      let x : a ≡ a' = one-node knight g at 1 (case_due Knight i S) a a' (known-have i (kind_of Knight) S has) ta (subst (λ (k : ℕ). TellsOne knight g at 1 (case_due Knight k S) a') same ta') in
      let y : b ≡ b' = one-node rook g at m (case_due Rook i S) b b' (known-have i (kind_of Rook) S has) tb (subst (λ (k : ℕ). TellsOne rook g at m (case_due Rook k S) b') same tb') in
      let z : c ≡ c' = one-node queen g at n (case_due Queen i S) c c' (known-have i (kind_of Queen) S has) tc (subst (λ (k : ℕ). TellsOne queen g at n (case_due Queen k S) c') same tc') in
      let ways : ℕ → List Child → List Sentence → List Sentence = λ k l q. unknown s S ∷ (denials_told at l (cases_from Knight k S) [] l ++ q) in
      e
      ∙ ap (λ (l : List Child). ways i l (a ++ (b ++ c))) kids
      ∙ ap (λ (l : List Sentence). ways i es (l ++ (b ++ c))) x
      ∙ ap (λ (l : List Sentence). ways i es (a' ++ (l ++ c))) y
      ∙ ap (λ (l : List Sentence). ways i es (a' ++ (b' ++ l))) z
      ∙ ap (λ (k : ℕ). ways k es (a' ++ (b' ++ c'))) (sym same)
      ∙ sym e'

  one-each : (ns : Nodes) (g : Setting) (at : Spot) (n : ℕ) (ds : List Due) (ss ts : List Sentence) → AllHave ds → TellsEach ns g at n ds ss → TellsEach ns g at n ds ts → ss ≡ ts
  one-each none g at n ds ss ts has x y = x ∙ sym y
  one-each (more x ns) g at n [] ss ts has told other = absurd told
  one-each (more x ns) g at n (d ∷ ds) ss ts has (own, rest, e, one, each) (own', rest', e', one', each') =
      e
      ∙ ap (λ (l : List Sentence). l ++ rest) (one-node x g at n d own own' has.0 one one')
      ∙ ap (λ (l : List Sentence). own' ++ l) (one-each ns g at (next_number (leaf_of (own_line x)) n) ds rest rest' has.1 each each')
      ∙ sym e'

-- ONE TEXT

pub one-sketch-text : (q : Asked) (b : Body) (o r s : List ℕ) → AddsSketch q b o r → AddsSketch q b o s → r ≡ s
one-sketch-text q b o r s (tree, ss, written, told, adds) (other, ts, written', told', adds') =
    let S : Sketch = sketch_of q.board in
    let g : Setting = setting_by q b in
    let same : other ≡ tree = one-tree other tree (written' ∙ sym written) in
    let sentences : ss ≡ ts = one-node tree g first_spot 1 (first_due S) ss ts (record { whole = board-whole q.board; somewhere = board-somewhere q.board }) told (subst (λ (x : Node). TellsOne x g first_spot 1 (first_due S) ts) same told') in
    adds.1 ∙ ap (λ (l : List Sentence). o ++ all_words g S l) sentences ∙ sym adds'.1
