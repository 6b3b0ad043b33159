-- Each query has one tree.
use Rattle.std.proofs.Common.{◌≡◌, inl, inr, ℕ, zero, suc, ◌+◌, ◌≤◌, List, [], ◌∷◌, ◌++◌, length, refl, ap, sym, ◌∙◌, subst, arith}
use Rattle.std.proofs.lemmas.Bool.{cases_lt}
use Rattle.board_base.specs.Texts.{unmove_text}
use Rattle.board_base.specs.declared.unmoves.Unmove.{Unmove}
use Rattle.query_base.specs.Asked.{Asked}
use Rattle.query_base.specs.Ancestors.{GoesBack}
use Rattle.query_base.proofs.Nearest.{covered}
use Rattle.unmove_gen.specs.Listed.{unmoves}
use Rattle.unmove_gen.specs.Predecessor.{predecessor}
use Rattle.tree_browser.specs.Trees.{Each, Expands, IsNote, IsTree, line}
use Rattle.tree_browser.specs.declared.notes.Note.{Note}
use Rattle.tree_browser.specs.declared.notes.Note.TheVariants.{Closed, Back, Array, End, Expand}

same-steps : (q : Asked) (above : List Asked) (j k : ℕ) → GoesBack q above j → GoesBack q above k → j ≡ k
same-steps q above j k a b = elim (cases_lt j k) [
  | inl h ↦ absurd (b.nearest j h a.covers)
  | inr h ↦ elim (cases_lt k j) [ inl g ↦ absurd (a.nearest k g b.covers) | inr g ↦ omega (arith, h, g) ]
]

pub one-note : (a b : Note) (q : Asked) (above : List Asked) (left : ℕ) → IsNote a q above left → IsNote b q above left → a ≡ b
one-note Closed Closed q above left h g = refl
one-note Closed (Back k) q above left h g = absurd (g.0 h)
one-note Closed Array q above left h g = absurd (g.0 h)
one-note Closed End q above left h g = absurd (g.0 h)
one-note Closed (Expand n) q above left h g = absurd (g.0 h)
one-note (Back j) Closed q above left h g = absurd (h.0 g)
one-note (Back j) (Back k) q above left h g = ap Back (same-steps q above j k h.1 g.1)
one-note (Back j) Array q above left h g = absurd (g.1 (covered above j q h.1.covers))
one-note (Back j) End q above left h g = absurd (g.1 (covered above j q h.1.covers))
one-note (Back j) (Expand n) q above left h g = absurd (g.1 (covered above j q h.1.covers))
one-note Array Closed q above left h g = absurd (h.0 g)
one-note Array (Back k) q above left h g = absurd (h.1 (covered above k q g.1.covers))
one-note Array Array q above left h g = refl
one-note Array End q above left h g = absurd (g.2 h.2)
one-note Array (Expand n) q above left h g = absurd (g.2 h.2)
one-note End Closed q above left h g = absurd (h.0 g)
one-note End (Back k) q above left h g = absurd (h.1 (covered above k q g.1.covers))
one-note End Array q above left h g = absurd (h.2 g.2)
one-note End End q above left h g = refl
one-note End (Expand n) q above left h g = absurd (let z : left ≡ 0 = h.3 in let y : 1 ≤ left = g.3 in omega (arith, z, y))
one-note (Expand i) Closed q above left h g = absurd (h.0 g)
one-note (Expand i) (Back k) q above left h g = absurd (h.1 (covered above k q g.1.covers))
one-note (Expand i) Array q above left h g = absurd (h.2 g.2)
one-note (Expand i) End q above left h g = absurd (let z : left ≡ 0 = g.3 in let y : 1 ≤ left = h.3 in omega (arith, z, y))
one-note (Expand i) (Expand n) q above left h g = ap Expand (h.4 ∙ sym g.4)

pub one-each : (R : Unmove → ℕ → List ℕ → Type 0) → ((u : Unmove) (a b : ℕ) (s t : List ℕ) → R u a s → R u b t → (a ≡ b) × (s ≡ t)) → (us : List Unmove) (m n : ℕ) (s t : List ℕ) → Each R us m s → Each R us n t → (m ≡ n) × (s ≡ t)
one-each R one [] m n s t h g = (h.0 ∙ sym g.0, h.1 ∙ sym g.1)
one-each R one (u ∷ us) m n s t h g =
    let first = one u h.0 g.0 h.2 g.2 h.4 g.4 in
    let rest = one-each R one us h.1 g.1 h.3 g.3 h.5 g.5 in
    (h.6 ∙ ap (λ (k : ℕ). k + h.1) first.0 ∙ ap (λ (k : ℕ). g.0 + k) rest.0 ∙ sym g.6, h.7 ∙ ap (λ (l : List ℕ). l ++ h.3) first.1 ∙ ap (λ (l : List ℕ). g.2 ++ l) rest.1 ∙ sym g.7)

one-rest : (R : Unmove → ℕ → List ℕ → Type 0) → ((u : Unmove) (a b : ℕ) (s t : List ℕ) → R u a s → R u b t → (a ≡ b) × (s ≡ t)) → (us : List Unmove) (note : Note) (m n : ℕ) (s t : List ℕ) → Expands note (Each R us m s) ((m ≡ 0) × (s ≡ [])) → Expands note (Each R us n t) ((n ≡ 0) × (t ≡ [])) → (m ≡ n) × (s ≡ t)
one-rest R one us Closed m n s t h g = (h.0 ∙ sym g.0, h.1 ∙ sym g.1)
one-rest R one us (Back k) m n s t h g = (h.0 ∙ sym g.0, h.1 ∙ sym g.1)
one-rest R one us Array m n s t h g = (h.0 ∙ sym g.0, h.1 ∙ sym g.1)
one-rest R one us End m n s t h g = (h.0 ∙ sym g.0, h.1 ∙ sym g.1)
one-rest R one us (Expand k) m n s t h g = one-each R one us m n s t h g

pub one-tree : (left : ℕ) (q : Asked) (above : List Asked) (label : List ℕ) (m n : ℕ) (s t : List ℕ) → IsTree left q above label m s → IsTree left q above label n t → (m ≡ n) × (s ≡ t)
one-tree zero q above label m n s t h g =
    let same = one-note h.0 g.0 q above 0 h.1 g.1 in
    (h.2 ∙ sym g.2, h.3 ∙ ap (line (length above) label) same ∙ sym g.3)
one-tree (suc left) q above label m n s t h g =
    let R : Unmove → ℕ → List ℕ → Type 0 = λ u. IsTree left (predecessor q u) (q ∷ above) (unmove_text u) in
    let same = one-note h.0 g.0 q above (suc left) h.3 g.3 in
    let other = subst (λ (k : Note). Expands k (Each R (unmoves q) g.1 g.2) ((g.1 ≡ 0) × (g.2 ≡ []))) (sym same) g.4 in
    let rest = one-rest R (λ u. one-tree left (predecessor q u) (q ∷ above) (unmove_text u)) (unmoves q) h.0 h.1 g.1 h.2 g.2 h.4 other in
    (h.5 ∙ ap suc rest.0 ∙ sym g.5, h.6 ∙ ap (λ (k : Note). line (length above) label k ++ h.2) same ∙ ap (λ (l : List ℕ). line (length above) label g.0 ++ l) rest.1 ∙ sym g.6)
