-- Trees that are written, node by node.
use Rattle.std.proofs.Common.{◌≡◌, ℕ, zero, suc, ◌+◌, ◌<◌, ◌≤◌, true, false, List, [], ◌∷◌, ◌++◌, length, refl, ap, sym, ◌∙◌, subst, arith, append_assoc}
use Rattle.std.proofs.lemmas.Bool.{both_ways}
use Rattle.std.proofs.lemmas.List.{append-nil}
use Rattle.std.proofs.lemmas.List.Elements.{Contains-append_right}
use Rattle.std.specs.List.{Contains}
use Rattle.board_base.specs.Texts.{unmove_text}
use Rattle.board_base.specs.declared.unmoves.Unmove.{Unmove}
use Rattle.query_base.specs.Asked.{Asked}
use Rattle.unmove_gen.specs.Listed.{unmoves}
use Rattle.unmove_gen.specs.Predecessor.{predecessor}
use Rattle.tree_browser.specs.Trees.{Each, Expands, IsNote, IsTree, line}
use Rattle.tree_browser.specs.Pages.{AreTrees, expands, Adds, Writes, WritesAll}
use Rattle.tree_browser.specs.declared.notes.Note.{Note}
use Rattle.tree_browser.specs.declared.notes.Note.TheVariants.{Closed, Back, Array, End, Expand}
use Rattle.tree_browser.specs.declared.trees.Page.{Page}
use Rattle.tree_browser.proofs.OneTree.{one-each, one-note, one-tree}

abbrev no_lines : ℕ
no_lines = 0

abbrev no_text : List ℕ
no_text = []

nothing-below : (note : Note) (P : Type 0) → expands note ≡ false → Expands note P ((no_lines ≡ 0) × (no_text ≡ []))
nothing-below Closed P e = (refl, refl)
nothing-below (Back k) P e = (refl, refl)
nothing-below Array P e = (refl, refl)
nothing-below End P e = (refl, refl)
nothing-below (Expand n) P e = absurd (both_ways true e refl)

all-below : (note : Note) (P Q : Type 0) → expands note ≡ true → P → Expands note P Q
all-below Closed P Q e h = absurd (both_ways false refl e)
all-below (Back k) P Q e h = absurd (both_ways false refl e)
all-below Array P Q e h = absurd (both_ways false refl e)
all-below End P Q e h = absurd (both_ways false refl e)
all-below (Expand n) P Q e h = h

below-all : (note : Note) (P Q : Type 0) → expands note ≡ true → Expands note P Q → P
below-all Closed P Q e h = absurd (both_ways false refl e)
below-all (Back k) P Q e h = absurd (both_ways false refl e)
below-all Array P Q e h = absurd (both_ways false refl e)
below-all End P Q e h = absurd (both_ways false refl e)
below-all (Expand n) P Q e h = h

pub deeper : (note : Note) (q : Asked) (above : List Asked) (left : ℕ) → expands note ≡ true → IsNote note q above left → 1 ≤ left
deeper Closed q above left e h = absurd (both_ways false refl e)
deeper (Back k) q above left e h = absurd (both_ways false refl e)
deeper Array q above left e h = absurd (both_ways false refl e)
deeper End q above left e h = absurd (both_ways false refl e)
deeper (Expand n) q above left e h = h.3

pub leaf : (left : ℕ) (q : Asked) (above : List Asked) (label : List ℕ) (note : Note) → expands note ≡ false → IsNote note q above left → IsTree left q above label 1 (line (length above) label note)
leaf zero q above label note e h = (note, h, refl, refl)
leaf (suc left) q above label note e h = (note, 0, [], h, nothing-below note _ e, refl, sym (append-nil _))

inner-as : (below : ℕ) (q : Asked) (above : List Asked) (label : List ℕ) (note : Note) (m : ℕ) (rest : List ℕ) → expands note ≡ true → IsNote note q above (suc below) → AreTrees below q above (unmoves q) m rest → IsTree (suc below) q above label (suc m) (line (length above) label note ++ rest)
inner-as below q above label note m rest e h trees = (note, m, rest, h, all-below note _ _ e trees, refl, refl)

pub inner : (left below : ℕ) (q : Asked) (above : List Asked) (label : List ℕ) (note : Note) (m : ℕ) (rest : List ℕ) → left ≡ suc below → expands note ≡ true → IsNote note q above left → AreTrees below q above (unmoves q) m rest → IsTree left q above label (suc m) (line (length above) label note ++ rest)
inner left below q above label note m rest s e h trees =
    subst (λ (k : ℕ). IsTree k q above label (suc m) (line (length above) label note ++ rest)) (sym s) (inner-as below q above label note m rest e (subst (IsNote note q above) s h) trees)

spent-as : (below : ℕ) (q : Asked) (above : List Asked) (label : List ℕ) (note : Note) (p : ℕ) → expands note ≡ true → IsNote note q above (suc below) → ((m : ℕ) (rest : List ℕ) → AreTrees below q above (unmoves q) m rest → p < m) → (n : ℕ) (t : List ℕ) → IsTree (suc below) q above label n t → p + 1 < n
spent-as below q above label note p e h none n t tree =
    let same : tree.0 ≡ note = one-note tree.0 note q above (suc below) tree.3 h in
    let trees = below-all note _ _ e (subst (λ (k : Note). Expands k (AreTrees below q above (unmoves q) tree.1 tree.2) ((tree.1 ≡ 0) × (tree.2 ≡ []))) same tree.4) in
    let low : p < tree.1 = none tree.1 tree.2 trees in
    let count : n ≡ suc tree.1 = tree.5 in
    omega (arith, low, count)

pub inner-spent : (left below : ℕ) (q : Asked) (above : List Asked) (label : List ℕ) (note : Note) (p : ℕ) → left ≡ suc below → expands note ≡ true → IsNote note q above left → ((m : ℕ) (rest : List ℕ) → AreTrees below q above (unmoves q) m rest → p < m) → (n : ℕ) (t : List ℕ) → IsTree left q above label n t → p + 1 < n
inner-spent left below q above label note p s e h none n t tree =
    spent-as below q above label note p e (subst (IsNote note q above) s h) none n t (subst (λ (k : ℕ). IsTree k q above label n t) s tree)

each-snoc : (R : Unmove → ℕ → List ℕ → Type 0) (us : List Unmove) (u : Unmove) (n a : ℕ) (t s : List ℕ) → Each R us n t → R u a s → Each R (us ++ u ∷ []) (n + a) (t ++ s)
each-snoc R [] u n a t s h r =
    let z : n ≡ 0 = h.0 in
    (a, 0, s, [], r, (refl, refl), omega (arith, z), ap (λ (l : List ℕ). l ++ s) h.1 ∙ sym (append-nil s))
each-snoc R (v ∷ us) u n a t s h r =
    let e : n ≡ h.0 + h.1 = h.6 in
    (h.0, h.1 + a, h.2, h.3 ++ s, h.4, each-snoc R us u h.1 a h.3 s h.5 r, omega (arith, e), ap (λ (l : List ℕ). l ++ s) h.7 ∙ append_assoc h.2 h.3 s)

each-split : (R : Unmove → ℕ → List ℕ → Type 0) (us vs : List Unmove) (n : ℕ) (t : List ℕ) → Each R (us ++ vs) n t → (a : ℕ) × (b : ℕ) × (s : List ℕ) × (r : List ℕ) × Each R us a s × Each R vs b r × (n ≡ a + b)
each-split R [] vs n t h = (0, n, [], t, (refl, refl), h, omega arith)
each-split R (u ∷ us) vs n t h =
    let i = each-split R us vs h.1 h.3 h.5 in
    let e : n ≡ h.0 + h.1 = h.6 in
    let f : h.1 ≡ i.0 + i.1 = i.6 in
    (h.0 + i.0, i.1, h.2 ++ i.2, i.3, (h.0, i.0, h.2, i.2, h.4, i.4, refl, refl), i.5, omega (arith, e, f))

-- the trees that are written so far
pub record SoFar (q : Asked) (left : ℕ) (above : List Asked) (rest : List Unmove) (old page : Page) : Type 0 where
  pub done : List Unmove
  pub parts : unmoves q ≡ done ++ rest
  pub n : ℕ
  pub more : List ℕ
  pub each : AreTrees left q above done n more
  pub adds : Adds n more old page

pub so_none : (q : Asked) (left : ℕ) (above : List Asked) (page : Page) → SoFar q left above (unmoves q) page page
so_none q left above page = record {
  done = [];
  parts = refl;
  n = 0;
  more = [];
  each = (refl, refl);
  adds = record { text = sym (append-nil page.text.items); left = omega arith };
}

pub so_more : (q p : Asked) (left : ℕ) (above : List Asked) (us rest : List Unmove) (u : Unmove) (label : List ℕ) (old page next : Page) → SoFar q left above us old page → us ≡ u ∷ rest → p ≡ predecessor q u → label ≡ unmove_text u → Writes p left (q ∷ above) label page next → SoFar q left above rest old next
so_more q p left above us rest u label old page next so e ep el w =
    let own : IsTree left (predecessor q u) (q ∷ above) (unmove_text u) w.0 w.1 = subst (λ (x : Asked). IsTree left x (q ∷ above) (unmove_text u) w.0 w.1) ep (subst (λ (l : List ℕ). IsTree left p (q ∷ above) l w.0 w.1) el w.2) in
    let a : old.left ≡ page.left + so.n = so.adds.left in
    let b : page.left ≡ next.left + w.0 = w.3.left in
    record {
      done = so.done ++ u ∷ [];
      parts = so.parts ∙ ap (λ (l : List Unmove). so.done ++ l) e ∙ sym (append_assoc so.done (u ∷ []) rest);
      n = so.n + w.0;
      more = so.more ++ w.1;
      each = each-snoc (λ v. IsTree left (predecessor q v) (q ∷ above) (unmove_text v)) so.done u so.n w.0 so.more w.1 so.each own;
      adds = record {
        text = w.3.text ∙ ap (λ (l : List ℕ). l ++ w.1) so.adds.text ∙ append_assoc old.text.items so.more w.1;
        left = omega (arith, a, b);
      };
    }

pub so_all : (q : Asked) (left : ℕ) (above : List Asked) (us : List Unmove) (old page : Page) → us ≡ [] → SoFar q left above us old page → WritesAll q left above (unmoves q) old page
so_all q left above us old page e so =
    let whole : so.done ≡ unmoves q = sym (so.parts ∙ ap (λ (l : List Unmove). so.done ++ l) e ∙ append-nil so.done) in
    (so.n, so.more, subst (λ (l : List Unmove). AreTrees left q above l so.n so.more) whole so.each, so.adds)

pub so_spent : (q p : Asked) (left : ℕ) (above : List Asked) (us rest : List Unmove) (u : Unmove) (label : List ℕ) (old page : Page) → SoFar q left above us old page → us ≡ u ∷ rest → p ≡ predecessor q u → label ≡ unmove_text u → ((n : ℕ) (t : List ℕ) → IsTree left p (q ∷ above) label n t → page.left < n) → (n : ℕ) (t : List ℕ) → AreTrees left q above (unmoves q) n t → old.left < n
so_spent q p left above us rest u label old page so e ep el none n t trees =
    let R : Unmove → ℕ → List ℕ → Type 0 = λ v. IsTree left (predecessor q v) (q ∷ above) (unmove_text v) in
    let one : (v : Unmove) (a b : ℕ) (s r : List ℕ) → R v a s → R v b r → (a ≡ b) × (s ≡ r) = λ v. one-tree left (predecessor q v) (q ∷ above) (unmove_text v) in
    let split = each-split R so.done (u ∷ rest) n t (subst (λ (l : List Unmove). Each R l n t) (so.parts ∙ ap (λ (l : List Unmove). so.done ++ l) e) trees) in
    let same : split.0 ≡ so.n = (one-each R one so.done split.0 so.n split.2 so.more split.4 so.each).0 in
    let next = split.5 in
    let own : IsTree left p (q ∷ above) label next.0 next.2 = subst (λ (l : List ℕ). IsTree left p (q ∷ above) l next.0 next.2) (sym el) (subst (λ (x : Asked). IsTree left x (q ∷ above) (unmove_text u) next.0 next.2) (sym ep) next.4) in
    let low : page.left < next.0 = none next.0 next.2 own in
    let a : old.left ≡ page.left + so.n = so.adds.left in
    let b : n ≡ split.0 + split.1 = split.6 in
    let f : split.1 ≡ next.0 + next.1 = next.6 in
    omega (arith, low, a, b, f, same)

-- the next unmove is one of the query's
pub listed-in : (q : Asked) (left : ℕ) (above : List Asked) (us rest : List Unmove) (u : Unmove) (old page : Page) → SoFar q left above us old page → us ≡ u ∷ rest → Contains (unmoves q) u
listed-in q left above us rest u old page so e =
    let here : Contains us u = subst (λ (l : List Unmove). Contains l u) (sym e) (0, omega arith, refl) in
    subst (λ (l : List Unmove). Contains l u) (sym so.parts) (Contains-append_right so.done us u here)
