-- The ends of nodes, as they are told.
use Rattle.std.proofs.Common.{◌≡◌, ℕ, suc, ◌+◌, false, true, Bool, List, [], ◌∷◌, ◌++◌, append-nil, append_assoc, arith, length, map, refl, ap, sym, ◌∙◌, subst, inl, inr}
use Rattle.std.specs.Prelude.{Option, Some, None, codes, ◌&&◌, cond, not}
use Rattle.std.specs.List.{Contains, list_all}
use Rattle.general_lemmas.proofs.Lists.{contains-first, contains-later}
use Rattle.std.proofs.lemmas.Bool.{both_ways, cases_Bool}
use Rattle.board_base.specs.Rights.{Rights}
use Rattle.board_base.specs.declared.men.Kind.TheVariants as kind
use Rattle.figures.specs.Figures.{Figure, Sketch, figure_at, fixed_squares}
use Rattle.figures.specs.Homes.{may_be_array, has_homes}
use Rattle.sketch_checker.proofs.Below.{cases-able, first-one, steps-able}
use Rattle.sketch_checker.specs.DueNodes.{Due, cases_from, due_of}
use Rattle.sketch_checker.specs.Steering.{AreAble}
use Rattle.sketch_checker.specs.Walks.{AreDue}
use Rattle.sketch_grounds.specs.FrozenSets.{greatest_frozen}
use Rattle.sketch_list.specs.Listed.{Earlier, earlier}
use Rattle.sketch_proof.proofs.Least.{least-one}
use Rattle.sketch_proof.specs.Nodes.{IsFirstUnknown, IsLeastAbove, IsVoid}
use Rattle.sketch_proof.proofs.Whole.{AreWhole, earlier-whole, known-whole}
use Rattle.sketch_proof.specs.Proofs.{Ends, HoldEach, Setting}
use Rattle.prose_words.proofs.Squares.{thence}
use Rattle.sketch_prose.proofs.Adding.{text-one}
use Rattle.sketch_prose.proofs.Denied.{children-so, denials-so, denials-words}
use Rattle.sketch_prose.specs.Children.{AreChildren, denials_told}
use Rattle.sketch_prose.specs.Ending.{SplitTold, StepsTold, VoidTold, level_of}
use Rattle.sketch_prose.specs.Levels.{AreFit, EndsTold, IsFit, Level}
use Rattle.sketch_prose.specs.Sentences.{Sentence, foreign, settled, stepped, unbalanced, unknown, IsTooFew}
use Rattle.sketch_words.specs.Crowds.{either_of, first_crowded, first_lacking, lacks_homes, why_words}
use Rattle.sketch_words.specs.Denials.{denials_words}
use Rattle.sketch_words.specs.Phrases.{Spot, is_top, settled_words, stepped_words, unknown_words}
use Rattle.sketch_words.specs.Words.{set_words, without}
use Rattle.sketch_words.specs.declared.spots.Child.{Child}
use Rattle.sketch_words.specs.declared.crowds.Lack.{Lack}
use Rattle.sketch_words.specs.declared.crowds.Lack.TheVariants.{Home, Room}
use Rattle.sketch_text.specs.Trees.{Line, Node, Nodes, Reason, closed, count, end_of, lines_below, lines_each, lines_of, more, none, split, steps, void}
use Rattle.sketch_text.specs.declared.labels.Officer.TheVariants.{Knight}
use Rattle.sketch_text.specs.declared.nodes.End.TheVariants.{Void, Closed, Steps, Split}

-- VOID AND CLOSED

void-is : (r : Reason) → Void ≡ end_of r → r ≡ void
void-is void e = refl
void-is (closed k) e = absurd (let never : Void ≡ Closed k → ⊥ = λ h. cc in never e)
void-is (steps ns) e = absurd (let never : Void ≡ Steps (count ns) → ⊥ = λ h. cc in never e)
void-is (split s a b c) e = absurd (let never : Void ≡ Split s → ⊥ = λ h. cc in never e)

pub void-ends : (r : Reason) (g : Setting) (D : Sketch) (at : Spot) (S : Sketch) (o p : List ℕ) → Void ≡ end_of r → Ends r g S → (IsVoid g.odds g.held S → VoidTold g S o p) → EndsTold r g D at S None o p
void-ends r g D at S o p e holds told =
    subst (λ (z : Reason). Ends z g S → EndsTold z g D at S None o p) (sym (void-is r e))
    (λ it.
    let so = told it in
    record {
      said = foreign so.square S ∷ [];
      so = (so.foreign, tt);
      opens = (refl, (so.square, so.foreign, refl));
      text = text-one g D (foreign so.square S) o p so.text;
    }) holds

closed-is : (r : Reason) (k : ℕ) → Closed k ≡ end_of r → r ≡ closed k
closed-is void k e = absurd (let never : Closed k ≡ Void → ⊥ = λ h. cc in never e)
closed-is (closed j) k e = ap closed (sym (same k j e))
  where
    same : (k j : ℕ) → Closed k ≡ Closed j → k ≡ j
    same k j e = cc
closed-is (steps ns) k e = absurd (let never : Closed k ≡ Steps (count ns) → ⊥ = λ h. cc in never e)
closed-is (split s a b c) k e = absurd (let never : Closed k ≡ Split s → ⊥ = λ h. cc in never e)

pub closed-ends : (r : Reason) (k : ℕ) (g : Setting) (D : Sketch) (at : Spot) (S : Sketch) (o p : List ℕ) → Closed k ≡ end_of r → Ends r g S → p ≡ o ++ codes " But the captures by pawns don't balance." → EndsTold r g D at S None o p
closed-ends r k g D at S o p e holds text =
    subst (λ (z : Reason). Ends z g S → EndsTold z g D at S None o p) (sym (closed-is r k e))
    (λ it. record {
      said = unbalanced k S ∷ [];
      so = (it, tt);
      opens = (refl, refl);
      text = text-one g D (unbalanced k S) o p text;
    }) holds

-- STEPS

steps-is : (r : Reason) (m : ℕ) → Steps m ≡ end_of r → (ns : Nodes) × (r ≡ steps ns) × (count ns ≡ m)
steps-is void m e = absurd (let never : Steps m ≡ Void → ⊥ = λ h. cc in never e)
steps-is (closed k) m e = absurd (let never : Steps m ≡ Closed k → ⊥ = λ h. cc in never e)
steps-is (steps ns) m e = (ns, refl, sym (same m (count ns) e))
  where
    same : (m n : ℕ) → Steps m ≡ Steps n → m ≡ n
    same m n e = cc
steps-is (split s a b c) m e = absurd (let never : Steps m ≡ Split s → ⊥ = λ h. cc in never e)

each-due : (ns : Nodes) (g : Setting) (es : List Earlier) → HoldEach ns g es → AreDue ns g (map due_of es)
each-due none g [] it = tt
each-due none g (e ∷ es) it = absurd it
each-due (more n ns) g [] it = absurd it
each-due (more n ns) g (e ∷ es) it = (it.0, each-due ns g es it.1)

each-fit : (o : List Bool) (es : List Earlier) → AreAble o (map due_of es) → ((e : Earlier) → Contains es e → AreWhole e.sketch) → AreFit o (map due_of es)
each-fit o [] able whole = tt
each-fit o (e ∷ es) able whole = (
  record { able = able.0; whole = whole e (contains-first e es) },
  each-fit o es able.1 (λ x there. whole x (contains-later e es x there)),
)

each-count : (ns : Nodes) (g : Setting) (es : List Earlier) → HoldEach ns g es → count ns ≡ length es
each-count none g [] it = refl
each-count none g (e ∷ es) it = absurd it
each-count (more n ns) g [] it = absurd it
each-count (more n ns) g (e ∷ es) it = let many : count ns ≡ length es = each-count ns g es it.1 in omega (arith, many)

first-found : (o : List Bool) (T : Sketch) (i : ℕ) (fs : Sketch) → list_all (has_homes o T) fs ≡ false → (k : ℕ) × (first_lacking Room o T i fs ≡ Some k)
first-found o T i [] e = absurd (both_ways true e refl)
first-found o T i (f ∷ fs) e = elim (cases_Bool (has_homes o T f)) [
  | inl yes_ ↦ let later = first-found o T (i + 1) fs (ap (λ (b : Bool). b && list_all (has_homes o T) fs) (sym yes_) ∙ e) in (later.0, ap (λ (b : Bool). cond (not b) (Some i) (first_lacking Room o T (i + 1) fs)) yes_ ∙ later.1)
  | inr no_ ↦ (i, ap (λ (b : Bool). cond (not b) (Some i) (first_lacking Room o T (i + 1) fs)) no_)
]

-- the figure with this number lacks this
record Lacking (lack : Lack) (o : List Bool) (T : Sketch) (i : ℕ) (fs : Sketch) (k : ℕ) : Type 0 where
  place : ℕ
  figure : Figure
  number : k ≡ i + place
  found : figure_at fs place ≡ Some figure
  lacks : lacks_homes lack o T figure ≡ true

found-lacks : (lack : Lack) (o : List Bool) (T : Sketch) (i : ℕ) (fs : Sketch) (k : ℕ) → first_lacking lack o T i fs ≡ Some k → Lacking lack o T i fs k
found-lacks lack o T i [] k e = absurd (let never : None ≡ Some k → ⊥ = λ h. cc in never e)
found-lacks lack o T i (g ∷ fs) k e = elim (cases_Bool (lacks_homes lack o T g)) [
  | inl yes_ ↦ let same : k ≡ i = sym (same-number i k (sym (ap (λ (b : Bool). cond b (Some i) (first_lacking lack o T (i + 1) fs)) yes_) ∙ e)) in record { place = 0; figure = g; number = omega (arith, same); found = refl; lacks = yes_ }
  | inr no_ ↦ let it = found-lacks lack o T (i + 1) fs k (sym (ap (λ (b : Bool). cond b (Some i) (first_lacking lack o T (i + 1) fs)) no_) ∙ e) in let number : k ≡ i + 1 + it.place = it.number in record { place = suc it.place; figure = it.figure; number = omega (arith, number); found = it.found; lacks = it.lacks }
]
  where
    same-number : (i k : ℕ) → Some i ≡ Some k → i ≡ k
    same-number i k e = cc

-- whom a search finds
one-lacking : (lack : Lack) (o : List Bool) (T : Sketch) (x : Option ℕ) (i : ℕ) → x ≡ Some i → first_lacking lack o T 0 T ≡ Some i → (j : ℕ) × (f : Figure) × (l : Lack) × (x ≡ Some j) × (figure_at T j ≡ Some f) × (lacks_homes l o T f ≡ true)
one-lacking lack o T x i is e =
    let it = found-lacks lack o T 0 T i e in
    let number : i ≡ 0 + it.place = it.number in
    let same : i ≡ it.place = omega (arith, number) in
    (i, it.figure, lack, is, ap (λ (n : ℕ). figure_at T n) same ∙ it.found, it.lacks)

crowded-lacks : (o : List Bool) (T : Sketch) (v x y z : Option ℕ) → first_lacking (Home 2) o T 0 T ≡ v → first_lacking (Home 9) o T 0 T ≡ x → first_lacking (Home 65) o T 0 T ≡ y → first_lacking Room o T 0 T ≡ z → may_be_array o T ≡ false → (i : ℕ) × (f : Figure) × (lack : Lack) × (either_of (either_of v (either_of x y)) z ≡ Some i) × (figure_at T i ≡ Some f) × (lacks_homes lack o T f ≡ true)
unfolding may_be_array
crowded-lacks o T (Some i) x y z one few any_ room e = one-lacking (Home 2) o T (Some i) i refl one
crowded-lacks o T None (Some i) y z one few any_ room e = one-lacking (Home 9) o T (Some i) i refl few
crowded-lacks o T None None (Some i) z one few any_ room e = one-lacking (Home 65) o T (Some i) i refl any_
crowded-lacks o T None None None (Some i) one few any_ room e = one-lacking Room o T (Some i) i refl room
crowded-lacks o T None None None None one few any_ room e = let found = first-found o T 0 T e in absurd (let never : None ≡ Some found.0 → ⊥ = λ h. cc in never (sym room ∙ found.1))

too-few : (o : List Bool) (T : Sketch) → may_be_array o T ≡ false → IsTooFew o T
too-few o T e = crowded-lacks o T (first_lacking (Home 2) o T 0 T) (first_lacking (Home 9) o T 0 T) (first_lacking (Home 65) o T 0 T) (first_lacking Room o T 0 T) refl refl refl refl e

steps-told : (ns : Nodes) (g : Setting) (D : Sketch) (at : Spot) (S : Sketch) (o p : List ℕ) (T : Sketch) → IsLeastAbove g.held g.exact S T → HoldEach ns g (earlier g.odds g.exact T) → IsFit g.odds S → (told : StepsTold ns g D at S (Some (level_of at (count ns) (map due_of (earlier g.odds g.exact T)))) o p) → told.wide ≡ T → EndsTold (steps ns) g D at S (Some (level_of at (count ns) (map due_of (earlier g.odds g.exact T)))) o p
steps-told ns g D at S o p T least each fit told same =
    let due : Sketch → List Due = λ U. map due_of (earlier g.odds g.exact U) in
    let cs : List Child = told.children in
    let are : AreChildren ns g (due T) cs = subst (λ (U : Sketch). AreChildren ns g (due U) cs) same told.are in
    let denied_ : List Sentence = denials_told at cs (due T) [] cs in
    let ways : List Sentence = stepped (is_top at) S T (count ns) ∷ settled S T (count ns) ∷ denied_ in
    let no_array : may_be_array g.odds T ≡ false = ap (λ (U : Sketch). may_be_array g.odds U) (sym same) ∙ told.no_array in
    let first : Sketch → List ℕ = λ U. stepped_words (is_top at) g.exact (why_words g.odds D S U (first_crowded g.odds U)) (count ns) in
    let second : Sketch → List ℕ = λ U. settled_words (set_words (without (fixed_squares U) (greatest_frozen g.held S))) (count ns) in
    record {
      said = ways;
      so = ((no_array, too-few g.odds T no_array, each-count ns g (earlier g.odds g.exact T) each), (least, denials-so g at cs (due T) [] cs (λ w. children-so w ns g (due T) cs (each-due ns g (earlier g.odds g.exact T) each) are)));
      opens = (
        ns,
        refl,
        refl,
        each-due ns g (earlier g.odds g.exact T) each,
        each-fit g.odds (earlier g.odds g.exact T) (steps-able g S T (earlier g.odds g.exact T) refl fit.able least) (earlier-whole g.odds g.exact T),
        λ ss tells. (T, cs, ss, least, are, refl, tells),
      );
      text = told.text
          ∙ ap (λ (U : Sketch). o ++ (first U ++ (second U ++ denials_words g.odds at cs [] cs))) same
          ∙ ap (λ (l : List ℕ). o ++ (first T ++ (second T ++ l))) (sym (denials-words g D at cs (due T) [] cs));
    }

pub steps-ends : (r : Reason) (m : ℕ) (g : Setting) (D : Sketch) (at : Spot) (S : Sketch) (below : Option Level) (o p : List ℕ) (lines rest : List Line) → Steps m ≡ end_of r → lines ≡ lines_below r ++ rest → Ends r g S → IsFit g.odds S → ((T : Sketch) (ns : Nodes) (more_ : List Line) → IsLeastAbove g.held g.exact S T → may_be_array g.odds T ≡ false → IsFit g.odds S → count ns ≡ m → lines ≡ lines_each ns ++ more_ → AreDue ns g (map due_of (earlier g.odds g.exact T)) → StepsTold ns g D at S below o p) → EndsTold r g D at S below o p
steps-ends r m g D at S below o p lines rest e lines_are holds fit told =
    let is = steps-is r m e in
    subst (λ (z : Reason). lines ≡ lines_below z ++ rest → Ends z g S → EndsTold z g D at S below o p) (sym is.1)
    (λ own it.
    let so : StepsTold is.0 g D at S below o p = told it.0 is.0 rest it.1 it.2 fit is.2 own (each-due is.0 g (earlier g.odds g.exact it.0) it.3) in
    let same : so.wide ≡ it.0 = least-one g.held g.exact S so.wide it.0 fit.able.somewhere so.least it.1 in
    let level : below ≡ Some (level_of at (count is.0) (map due_of (earlier g.odds g.exact it.0))) = so.level ∙ ap (λ (U : Sketch). Some (level_of at (count is.0) (map due_of (earlier g.odds g.exact U)))) same in
    by-level is.0 it below so same level it.3) lines_are holds
  where
    by-level : (ns : Nodes) (it : Ends (steps ns) g S) (b : Option Level) (so : StepsTold ns g D at S b o p) → so.wide ≡ it.0 → b ≡ Some (level_of at (count ns) (map due_of (earlier g.odds g.exact it.0))) → HoldEach ns g (earlier g.odds g.exact it.0) → EndsTold (steps ns) g D at S b o p
    by-level ns it b so same level each =
        let again : StepsTold ns g D at S (Some (level_of at (count ns) (map due_of (earlier g.odds g.exact it.0)))) o p = record { wide = so.wide; children = so.children; least = so.least; no_array = so.no_array; level = sym level ∙ so.level; are = so.are; text = so.text } in
        subst (λ (c : Option Level). EndsTold (steps ns) g D at S c o p) (sym level) (steps-told ns g D at S o p it.0 it.1 each fit again same)

-- the words of the three, one behind the other
pub steps-text : (g : Setting) (D : Sketch) (at : Spot) (S T : Sketch) (m : ℕ) (cs : List Child) (ns : Nodes) → count ns ≡ m → (o p r : List ℕ) → p ≡ o ++ (stepped_words (is_top at) g.exact (why_words g.odds D S T (first_crowded g.odds T)) m ++ settled_words (set_words (without (fixed_squares T) (greatest_frozen g.held S))) m) → r ≡ p ++ denials_words g.odds at cs [] cs → r ≡ o ++ (stepped_words (is_top at) g.exact (why_words g.odds D S T (first_crowded g.odds T)) (count ns) ++ (settled_words (set_words (without (fixed_squares T) (greatest_frozen g.held S))) (count ns) ++ denials_words g.odds at cs [] cs))
steps-text g D at S T m cs ns many o p r first second =
    let a : ℕ → List ℕ = λ n. stepped_words (is_top at) g.exact (why_words g.odds D S T (first_crowded g.odds T)) n in
    let b : ℕ → List ℕ = λ n. settled_words (set_words (without (fixed_squares T) (greatest_frozen g.held S))) n in
    let c : List ℕ = denials_words g.odds at cs [] cs in
    thence o p r (a m ++ b m) c first second
    ∙ ap (λ (l : List ℕ). o ++ l) (append_assoc (a m) (b m) c)
    ∙ ap (λ (n : ℕ). o ++ (a n ++ (b n ++ c))) (sym many)

-- CASES

split-is : (r : Reason) (s : ℕ) → Split s ≡ end_of r → (a : Node) × (b : Node) × (c : Node) × (r ≡ split s a b c)
split-is void s e = absurd (let never : Split s ≡ Void → ⊥ = λ h. cc in never e)
split-is (closed k) s e = absurd (let never : Split s ≡ Closed k → ⊥ = λ h. cc in never e)
split-is (steps ns) s e = absurd (let never : Split s ≡ Steps (count ns) → ⊥ = λ h. cc in never e)
split-is (split t a b c) s e = (a, b, c, ap (λ (z : ℕ). split z a b c) (sym (same s t e)))
  where
    same : (m n : ℕ) → Split m ≡ Split n → m ≡ n
    same m n e = cc

cases-fit : (o : List Bool) (i : ℕ) (S : Sketch) → IsFit o S → AreFit o (cases_from Knight i S)
cases-fit o i S fit =
    let able = cases-able o i S S refl fit.able in (
      record { able = able.0; whole = known-whole i kind.Knight S fit.whole },
      (record { able = able.1.0; whole = known-whole i kind.Rook S fit.whole }, (record { able = able.1.1.0; whole = known-whole i kind.Queen S fit.whole }, tt)),
    )

three-lines : (a b c : Node) → lines_of a ++ (lines_of b ++ lines_of c) ≡ lines_each (more a (more b (more c none)))
three-lines a b c = ap (λ (l : List Line). lines_of a ++ (lines_of b ++ l)) (sym (append-nil (lines_of c)))

split-told : (s : ℕ) (a b c : Node) (g : Setting) (D : Sketch) (at : Spot) (S : Sketch) (i : ℕ) (cs : List Child) (o p : List ℕ) → IsFirstUnknown S s i → AreDue (more a (more b (more c none))) g (cases_from Knight i S) → AreChildren (more a (more b (more c none))) g (cases_from Knight i S) cs → IsFit g.odds S → p ≡ o ++ (unknown_words s ++ denials_words g.odds at cs [] cs) → EndsTold (split s a b c) g D at S (Some (level_of at 3 (cases_from Knight i S))) o p
split-told s a b c g D at S i cs o p first due are fit text =
    let ds : List Due = cases_from Knight i S in
    let denied_ : List Sentence = denials_told at cs ds [] cs in
    record {
      said = unknown s S ∷ denied_;
      so = ((i, first), denials-so g at cs ds [] cs (λ w. children-so w (more a (more b (more c none))) g ds cs due are));
      opens = (
        more a (more b (more c none)),
        three-lines a b c,
        refl,
        due,
        cases-fit g.odds i S fit,
        λ ss (k, r1, e1, t1, (l, r2, e2, t2, (m, r3, e3, t3, e4))). (
          i,
          cs,
          k,
          l,
          m,
          first,
          are,
          ap (λ (q : List Sentence). unknown s S ∷ (denied_ ++ q)) (e1 ∙ ap (λ (q : List Sentence). k ++ q) (e2 ∙ ap (λ (q : List Sentence). l ++ q) (e3 ∙ ap (λ (q : List Sentence). m ++ q) e4 ∙ append-nil m))),
          t1,
          t2,
          t3,
        ),
      );
      text = text ∙ ap (λ (l : List ℕ). o ++ (unknown_words s ++ l)) (sym (denials-words g D at cs ds [] cs));
    }

pub split-ends : (r : Reason) (s : ℕ) (g : Setting) (D : Sketch) (at : Spot) (S : Sketch) (below : Option Level) (o p : List ℕ) (lines rest : List Line) → Split s ≡ end_of r → lines ≡ lines_below r ++ rest → Ends r g S → IsFit g.odds S → ((i : ℕ) (ns : Nodes) (more_ : List Line) → IsFirstUnknown S s i → count ns ≡ 3 → lines ≡ lines_each ns ++ more_ → AreDue ns g (cases_from Knight i S) → SplitTold ns g at S s below o p) → EndsTold r g D at S below o p
split-ends r s g D at S below o p lines rest e lines_are holds fit told =
    let is = split-is r s e in
    let three : Nodes = more is.0 (more is.1 (more is.2 none)) in
    subst (λ (z : Reason). lines ≡ lines_below z ++ rest → Ends z g S → EndsTold z g D at S below o p) (sym is.3)
    (λ own it.
    let due : AreDue three g (cases_from Knight it.0 S) = (it.2, (it.3, (it.4, tt))) in
    let so = told it.0 three rest it.1 refl (own ∙ ap (λ (l : List Line). l ++ rest) (three-lines is.0 is.1 is.2)) due in
    let same : so.number ≡ it.0 = first-one S s so.number it.0 so.first it.1 in
    let level : below ≡ Some (level_of at 3 (cases_from Knight it.0 S)) = so.level ∙ ap (λ (j : ℕ). Some (level_of at 3 (cases_from Knight j S))) same in
    let are : AreChildren three g (cases_from Knight it.0 S) so.children = subst (λ (j : ℕ). AreChildren three g (cases_from Knight j S) so.children) same so.are in
    subst (λ (c : Option Level). EndsTold (split s is.0 is.1 is.2) g D at S c o p) (sym level) (split-told s is.0 is.1 is.2 g D at S it.0 so.children o p it.1 due are fit so.text)) lines_are holds

-- a least closed sketch that can't be the array and one that can aren't of one sketch
pub one-array : (o : List Bool) (held : Rights) (exact : List Bool) (S T U : Sketch) → IsFit o S → IsLeastAbove held exact S T → may_be_array o T ≡ false → IsLeastAbove held exact S U → may_be_array o U ≡ true → ⊥
one-array o held exact S T U fit least no_ least' yes_ =
    both_ways (may_be_array o T) no_ (ap (λ (W : Sketch). may_be_array o W) (least-one held exact S T U fit.able.somewhere least least') ∙ yes_)
