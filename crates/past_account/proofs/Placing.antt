-- Figures with the labels of their men.
use Rattle.std.proofs.Common.{◌≡◌, ℕ, zero, suc, ◌⊎◌, inl, inr, Bool, true, false, cond, List, [], ◌∷◌, map, refl, ap, arith}
use Rattle.std.proofs.lemmas.Bool.{both_ways, cases_eq, or_cases}
use Rattle.std.proofs.lemmas.Option.{none-some}
use Rattle.std.specs.Prelude.{Some}
use Rattle.std.specs.List.{Contains, filter, list_any}
use Rattle.general_lemmas.proofs.Differing.{Differ, Has}
use Rattle.general_lemmas.proofs.Lists.{contains-cases, contains-first, contains-later, contains-none}
use Rattle.past_sketches.specs.Figures.{Figure, Sketch, figure_at}
use Rattle.past_account.specs.Account.{Counted, counted_by}
use Rattle.past_account.specs.Limits.{Limit}

-- a figure, what is known of how its man came, and his label
pub record Placed : Type 0 where
  pub row : Counted
  pub label : ℕ

abbrev pub labels_of : List Placed → List ℕ
labels_of Z = map (λ z. z.label) Z

abbrev pub rows_of : List Placed → List Counted
rows_of Z = map (λ z. z.row) Z

abbrev pub counted_as : Figure → Limit → Counted
counted_as f x = record { figure = f; limit = x }

abbrev pub placed_as : Figure → Limit → ℕ → Placed
placed_as f x l = record { row = counted_as f x; label = l }

-- the figures of a sketch
abbrev pub placed_by : (ℕ → ℕ) → (ℕ → Figure → Limit) → Sketch → List Placed
placed_by label limit [] = []
placed_by label limit (f ∷ S) = placed_as f (limit 0 f) (label 0) ∷ placed_by (λ i. label (suc i)) (λ i. limit (suc i)) S

pub rows-placed : (label : ℕ → ℕ) (limit : ℕ → Figure → Limit) (S : Sketch) → rows_of (placed_by label limit S) ≡ counted_by limit S
rows-placed label limit [] = refl
rows-placed label limit (f ∷ S) = ap (λ (xs : List Counted). counted_as f (limit 0 f) ∷ xs) (rows-placed (λ i. label (suc i)) (λ i. limit (suc i)) S)

-- each is a figure of the sketch
pub record IsOf (label : ℕ → ℕ) (limit : ℕ → Figure → Limit) (S : Sketch) (z : Placed) : Type 0 where
  pub number : ℕ
  pub figure : Figure
  pub there : figure_at S number ≡ Some figure
  pub is : placed_as figure (limit number figure) (label number) ≡ z

pub placed-told : (label : ℕ → ℕ) (limit : ℕ → Figure → Limit) (S : Sketch) (z : Placed) → Contains (placed_by label limit S) z → IsOf label limit S z
placed-told label limit [] z h = absurd (contains-none z h)
placed-told label limit (f ∷ S) z h = elim (contains-cases (placed_as f (limit 0 f) (label 0)) (placed_by (λ i. label (suc i)) (λ i. limit (suc i)) S) z h) [
  | inl same ↦ record { number = 0; figure = f; there = refl; is = same }
  | inr later ↦
      let x = placed-told (λ i. label (suc i)) (λ i. limit (suc i)) S z later in
      record { number = suc x.number; figure = x.figure; there = x.there; is = x.is }
]

pub placed-tells : (label : ℕ → ℕ) (limit : ℕ → Figure → Limit) (S : Sketch) (i : ℕ) (f : Figure) → figure_at S i ≡ Some f → Has (labels_of (placed_by label limit S)) (label i)
placed-tells label limit [] i f there = absurd (none-some f there)
placed-tells label limit (x ∷ S) zero f there = inl refl
placed-tells label limit (x ∷ S) (suc i) f there = inr (placed-tells (λ j. label (suc j)) (λ j. limit (suc j)) S i f there)

labels-told : (label : ℕ → ℕ) (limit : ℕ → Figure → Limit) (S : Sketch) (y : ℕ) → Has (labels_of (placed_by label limit S)) y → (i : ℕ) × (f : Figure) × (figure_at S i ≡ Some f) × (label i ≡ y)
labels-told label limit [] y h = elim h [ ]
labels-told label limit (f ∷ S) y h = elim h [
  | inl same ↦ (0, f, refl, same)
  | inr later ↦ let x = labels-told (λ i. label (suc i)) (λ i. limit (suc i)) S y later in (suc x.0, x.1, x.2, x.3)
]

-- no two have one label
pub placed-differ : (label : ℕ → ℕ) (limit : ℕ → Figure → Limit) (S : Sketch) → ((i j : ℕ) (f g : Figure) → figure_at S i ≡ Some f → figure_at S j ≡ Some g → label i ≡ label j → i ≡ j) → Differ (labels_of (placed_by label limit S))
placed-differ label limit [] apart = tt
placed-differ label limit (f ∷ S) apart = (
  λ h. let x = labels-told (λ i. label (suc i)) (λ i. limit (suc i)) S (label 0) h in
      let e : suc x.0 ≡ 0 = apart (suc x.0) 0 x.1 f x.2 refl x.3 in
      omega arith,
  placed-differ (λ i. label (suc i)) (λ i. limit (suc i)) S (λ i j a b there also same. let e : suc i ≡ suc j = apart (suc i) (suc j) a b there also same in omega arith),
)

-- a figure that passes a test
pub any-figure : (test : Figure → Bool) (S : Sketch) → list_any test S ≡ true → (i : ℕ) × (f : Figure) × (figure_at S i ≡ Some f) × (test f ≡ true)
any-figure test [] h = absurd (both_ways false refl h)
any-figure test (f ∷ S) h = elim (or_cases (test f) (list_any test S) h) [
  | inl here ↦ (0, f, refl, here)
  | inr later ↦ let x = any-figure test S later in (suc x.0, x.1, x.2, x.3)
]

-- a member has his label
pub has-label : (Z : List Placed) (z : Placed) → Contains Z z → Has (labels_of Z) z.label
has-label [] z h = absurd (contains-none z h)
has-label (y ∷ Z) z h = elim (contains-cases y Z z h) [
  | inl same ↦ inl (ap (λ (w : Placed). w.label) same)
  | inr later ↦ inr (has-label Z z later)
]

pub label-member : (Z : List Placed) (h : ℕ) → Has (labels_of Z) h → (z : Placed) × Contains Z z × (z.label ≡ h)
label-member [] h there = elim there [ ]
label-member (y ∷ Z) h there = elim there [
  | inl same ↦ (y, contains-first y Z, same)
  | inr later ↦ let x = label-member Z h later in (x.0, contains-later y Z x.0 x.1, x.2)
]

pub labelled-or-not : (Z : List Placed) (h : ℕ) → Has (labels_of Z) h ⊎ (Has (labels_of Z) h → ⊥)
labelled-or-not [] h = inr (λ there. elim there [ ])
labelled-or-not (y ∷ Z) h = elim (cases_eq y.label h) [
  | inl same ↦ inl (inl same)
  | inr other ↦ elim (labelled-or-not Z h) [
    | inl later ↦ inl (inr later)
    | inr none ↦ inr (λ there. elim there [ inl same ↦ other same | inr later ↦ none later ])
  ]
]

-- those who pass a test keep their labels apart
has-some : (b : Bool) (y : Placed) (Z : List Placed) (h : ℕ) → Has (labels_of (cond b (y ∷ Z) Z)) h → (y.label ≡ h) ⊎ Has (labels_of Z) h
has-some true y Z h there = there
has-some false y Z h there = inr there

pub some-has : (p : Placed → Bool) (Z : List Placed) (h : ℕ) → Has (labels_of (filter p Z)) h → Has (labels_of Z) h
some-has p [] h there = there
some-has p (y ∷ Z) h there = elim (has-some (p y) y (filter p Z) h there) [
  | inl same ↦ inl same
  | inr later ↦ inr (some-has p Z h later)
]

differ-some : (b : Bool) (y : Placed) (Z : List Placed) → (Has (labels_of Z) y.label → ⊥) → Differ (labels_of Z) → Differ (labels_of (cond b (y ∷ Z) Z))
differ-some true y Z new d = (new, d)
differ-some false y Z new d = d

pub some-differ : (p : Placed → Bool) (Z : List Placed) → Differ (labels_of Z) → Differ (labels_of (filter p Z))
some-differ p [] d = tt
some-differ p (y ∷ Z) d = differ-some (p y) y (filter p Z) (λ there. d.0 (some-has p Z y.label there)) (some-differ p Z d.1)

-- the rows of those who pass a test
rows-some : (b : Bool) (y : Placed) (Z : List Placed) (xs : List Counted) → rows_of Z ≡ xs → rows_of (cond b (y ∷ Z) Z) ≡ cond b (y.row ∷ xs) xs
rows-some true y Z xs e = ap (λ (l : List Counted). y.row ∷ l) e
rows-some false y Z xs e = e

pub some-rows : (p : Counted → Bool) (Z : List Placed) → rows_of (filter (λ z. p z.row) Z) ≡ filter p (rows_of Z)
some-rows p [] = refl
some-rows p (y ∷ Z) = rows-some (p y.row) y (filter (λ z. p z.row) Z) (filter p (rows_of Z)) (some-rows p Z)
