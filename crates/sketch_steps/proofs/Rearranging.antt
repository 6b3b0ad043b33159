-- Sketches with their figures moved, and their places counted anew.
use Rattle.std.proofs.Common.{◌≡◌, ◌≢◌, ℕ, zero, suc, ◌<◌, ◌≤◌, ◌==◌, inl, inr, Bool, true, false, cond, ◌&&◌, [], ◌∷◌, ◌++◌, map, length, take, append-nil, refl, ap, sym, ◌∙◌, subst, arith}
use Rattle.std.proofs.lemmas.Bool.{and_from, and_parts, and_right, cases_eq, eq-eqb, false_from_ne_true, lt-ltb, ltb-true, ne_eqb}
use Rattle.std.proofs.lemmas.List.Sums.{sum_by-cons}
use Rattle.std.proofs.lemmas.List.{take_all}
use Rattle.std.proofs.lemmas.Option.{same_Some}
use Rattle.std.specs.Prelude.{Some, count_by, nat_lt}
use Rattle.board_base.specs.declared.men.Kind.TheVariants.{Pawn}
use Rattle.figures.specs.Figures.{Figure, IsRearranged, IsWider, Sketch, figure_at, may_be}
use Rattle.figures.specs.Steps.{onto}
use Rattle.sketch_steps.specs.Places.{is_lower, placed_in, recounted}
use Rattle.sketch_sets.proofs.Closing.{map-at}

-- the second sketch has the figures of the first, by other numbers
pub record IsMoved (S T : Sketch) : Type 0 where
  pub from : ℕ → ℕ
  pub each : (j : ℕ) (g : Figure) → figure_at T j ≡ Some g → figure_at S (from j) ≡ Some g
  pub apart : (i j : ℕ) (f g : Figure) → figure_at T i ≡ Some f → figure_at T j ≡ Some g → from i ≡ from j → i ≡ j
  pub back : (i : ℕ) (f : Figure) → figure_at S i ≡ Some f → (j : ℕ) × (figure_at T j ≡ Some f) × (from j ≡ i)

pub stays : (T : Sketch) → IsMoved T T
stays T = record { from = λ j. j; each = λ j g e. e; apart = λ i j f g a b same. same; back = λ i f e. (i, e, refl) }

-- the first figure goes to the end
unfoldable turn : ℕ → ℕ → ℕ
turn n j = cond (j == n) 0 (suc j)

turn-last : (n j : ℕ) → j ≡ n → turn n j ≡ 0
unfolding turn
turn-last n j same = ap (λ (b : Bool). cond b 0 (suc j)) (eq-eqb j n same)

turn-front : (n j : ℕ) → j ≢ n → turn n j ≡ suc j
unfolding turn
turn-front n j other = ap (λ (b : Bool). cond b 0 (suc j)) (ne_eqb j n other)

last-at : (T : Sketch) (f : Figure) → figure_at (T ++ f ∷ []) (length T) ≡ Some f
last-at [] f = refl
last-at (g ∷ T) f = last-at T f

front-at : (T : Sketch) (f g : Figure) (j : ℕ) → figure_at (T ++ f ∷ []) j ≡ Some g → j ≢ length T → figure_at T j ≡ Some g
front-at [] f g zero e other = absurd (other refl)
front-at [] f g (suc j) e other = e
front-at (h ∷ T) f g zero e other = e
front-at (h ∷ T) f g (suc j) e other = front-at T f g j e (λ same. other (ap suc same))

front-back : (T : Sketch) (f g : Figure) (j : ℕ) → figure_at T j ≡ Some g → figure_at (T ++ f ∷ []) j ≡ Some g
front-back [] f g j e = cc
front-back (h ∷ T) f g zero e = e
front-back (h ∷ T) f g (suc j) e = front-back T f g j e

pub low-at : (T : Sketch) (j : ℕ) (g : Figure) → figure_at T j ≡ Some g → j < length T
low-at [] j g e = cc
low-at (h ∷ T) zero g e = omega arith
low-at (h ∷ T) (suc j) g e = let l : j < length T = low-at T j g e in omega arith

turned-each : (f : Figure) (T : Sketch) (j : ℕ) (g : Figure) → figure_at (T ++ f ∷ []) j ≡ Some g → figure_at (f ∷ T) (turn (length T) j) ≡ Some g
turned-each f T j g e = elim (cases_eq j (length T)) [
  | inl same ↦ ap (figure_at (f ∷ T)) (turn-last (length T) j same) ∙ sym (last-at T f) ∙ ap (figure_at (T ++ f ∷ [])) (sym same) ∙ e
  | inr other ↦ ap (figure_at (f ∷ T)) (turn-front (length T) j other) ∙ front-at T f g j e other
]

turned-apart : (n i j : ℕ) → turn n i ≡ turn n j → i ≡ j
turned-apart n i j same = elim (cases_eq i n) [
  | inl a ↦ elim (cases_eq j n) [
    | inl b ↦ a ∙ sym b
    | inr b ↦ let x : turn n i ≡ 0 = turn-last n i a in let y : turn n j ≡ suc j = turn-front n j b in absurd (omega arith)
  ]
  | inr a ↦ elim (cases_eq j n) [
    | inl b ↦ let x : turn n i ≡ suc i = turn-front n i a in let y : turn n j ≡ 0 = turn-last n j b in absurd (omega arith)
    | inr b ↦ let x : turn n i ≡ suc i = turn-front n i a in let y : turn n j ≡ suc j = turn-front n j b in omega arith
  ]
]

turned-back : (f : Figure) (T : Sketch) (i : ℕ) (g : Figure) → figure_at (f ∷ T) i ≡ Some g → (j : ℕ) × (figure_at (T ++ f ∷ []) j ≡ Some g) × (turn (length T) j ≡ i)
turned-back f T zero g e = (length T, last-at T f ∙ e, turn-last (length T) (length T) refl)
turned-back f T (suc k) g e = (k, front-back T f g k e, turn-front (length T) k (λ same. let low : k < length T = low-at T k g e in absurd (omega arith)))

turned : (f : Figure) (T : Sketch) → IsMoved (f ∷ T) (T ++ f ∷ [])
turned f T = record { from = turn (length T); each = λ j g e. turned-each f T j g e; apart = λ i j g h a b same. turned-apart (length T) i j same; back = λ i g e. turned-back f T i g e }

pub moved-behind : (V C : Sketch) → length V ≤ 1 → IsMoved (onto V C) (C ++ V)
moved-behind [] C few = subst (λ (l : Sketch). IsMoved C l) (sym (append-nil C)) (stays C)
moved-behind (v ∷ []) C few = turned v C
moved-behind (v ∷ w ∷ V) C few = absurd (omega arith)

-- places
pub unmapped : (h : Figure → Figure) (T : Sketch) (j : ℕ) (g : Figure) → figure_at (map h T) j ≡ Some g → (f : Figure) × (figure_at T j ≡ Some f) × (h f ≡ g)
unmapped h [] j g e = cc
unmapped h (f ∷ T) zero g e = (f, refl, same_Some (h f) g e)
unmapped h (f ∷ T) (suc j) g e = unmapped h T j g e

abbrev unit : Bool → ℕ
unit b = cond b 1 0

one-more : (x y : Bool) → (x ≡ true → y ≡ true) → unit x ≤ unit y
one-more true true h = omega arith
one-more true false h = cc (h refl)
one-more false y h = omega arith

pub count-more : (p q : Figure → Bool) (T : Sketch) → ((f : Figure) → p f ≡ true → q f ≡ true) → count_by p T ≤ count_by q T
count-more p q [] more = omega arith
count-more p q (f ∷ T) more =
    let a = sum_by-cons (λ (x : Figure). unit (p x)) f T in
    let b = sum_by-cons (λ (x : Figure). unit (q x)) f T in
    let here = one-more (p f) (q f) (more f) in
    let rest = count-more p q T more in
    omega (arith, a, b, here, rest)

pub count-above : (p q : Figure → Bool) (T : Sketch) (i : ℕ) (a : Figure) → ((f : Figure) → p f ≡ true → q f ≡ true) → figure_at T i ≡ Some a → p a ≡ false → q a ≡ true → count_by p T < count_by q T
count-above p q [] i a more e out there = cc
count-above p q (f ∷ T) zero a more e out there =
    let same : f ≡ a = same_Some f a e in
    let x = sum_by-cons (λ (g : Figure). unit (p g)) f T in
    let y = sum_by-cons (λ (g : Figure). unit (q g)) f T in
    let none : unit (p f) ≡ 0 = ap unit (ap p same ∙ out) in
    let one : unit (q f) ≡ 1 = ap unit (ap q same ∙ there) in
    let rest = count-more p q T more in
    omega (arith, x, y, none, one, rest)
count-above p q (f ∷ T) (suc i) a more e out there =
    let x = sum_by-cons (λ (g : Figure). unit (p g)) f T in
    let y = sum_by-cons (λ (g : Figure). unit (q g)) f T in
    let here = one-more (p f) (q f) (more f) in
    let rest = count-above p q T i a more e out there in
    omega (arith, x, y, here, rest)

lower-more : (a b f : Figure) → a.place < b.place → is_lower a f ≡ true → is_lower b f ≡ true
unfolding is_lower
lower-more a b f low h =
    let parts = and_parts (may_be f Pawn) (nat_lt f.place a.place) h in
    let under : f.place < a.place = ltb-true f.place a.place parts.1 in
    and_from (may_be f Pawn) (nat_lt f.place b.place) parts.0 (lt-ltb f.place b.place (omega arith))

lower-self : (a : Figure) → is_lower a a ≡ false
unfolding is_lower
lower-self a = and_right _ _ (false_from_ne_true (nat_lt a.place a.place) (λ h. let low : a.place < a.place = ltb-true a.place a.place h in absurd (omega arith)))

lower-there : (a b : Figure) → may_be a Pawn ≡ true → a.place < b.place → is_lower b a ≡ true
unfolding is_lower
lower-there a b pawn low = and_from (may_be a Pawn) (nat_lt a.place b.place) pawn (lt-ltb a.place b.place low)

pub places-kept : (T : Sketch) (i : ℕ) (a b : Figure) → figure_at T i ≡ Some a → may_be a Pawn ≡ true → a.place < b.place → (placed_in T a).place < (placed_in T b).place
unfolding placed_in
places-kept T i a b found pawn low = count-above (is_lower a) (is_lower b) T i a (λ f h. lower-more a b f low h) found (lower-self a) (lower-there a b pawn low)

pub placed-wider : (T : Sketch) (f : Figure) → IsWider f (placed_in T f)
unfolding placed_in
placed-wider T f = record { colour = refl; kinds = λ k h. h; squares = λ s h. h; marked = λ h. h }

pub moved-recounted : (S T : Sketch) → IsMoved S T → IsRearranged S (recounted T)
unfolding recounted
moved-recounted S T m = record {
  from = m.from;
  wider = λ j g e. let u = unmapped (placed_in T) T j g e in (u.0, m.each j u.0 u.1, subst (λ (x : Figure). IsWider u.0 x) u.2 (placed-wider T u.0));
  apart = λ i j f g a b same. let u = unmapped (placed_in T) T i f a in let v = unmapped (placed_in T) T j g b in m.apart i j u.0 v.0 u.1 v.1 same;
  kings = λ i f e king. let b = m.back i f e in (b.0, placed_in T f, map-at (placed_in T) T b.0 f b.1, b.2);
  places = λ i j s t f g f' g' a b d e pawn other on there level low.
      let u = unmapped (placed_in T) T i f' d in
      let v = unmapped (placed_in T) T j g' e in
      let same : u.0 ≡ f = same_Some u.0 f (sym (m.each i u.0 u.1) ∙ a) in
      let same' : v.0 ≡ g = same_Some v.0 g (sym (m.each j v.0 v.1) ∙ b) in
      let lower : u.0.place < v.0.place = subst (λ (x : Figure). x.place < v.0.place) (sym same) (subst (λ (x : Figure). f.place < x.place) (sym same') low) in
      let may : may_be u.0 Pawn ≡ true = ap (λ (x : Figure). may_be x Pawn) same ∙ pawn in
      subst (λ (x : Figure). x.place < g'.place) u.2 (subst (λ (x : Figure). (placed_in T u.0).place < x.place) v.2 (places-kept T i u.0 v.0 u.1 may lower));
}

-- as the program counts them
agree : (a a' : Bool) (m n m' n' : ℕ) → a ≡ a' → m ≡ m' → n ≡ n' → (a && nat_lt m n) ≡ (a' && nat_lt m' n')
agree a a' m n m' n' p q r = cc

pub lower-made : (f g : Figure) (may : Bool) (m n : ℕ) → may ≡ may_be g Pawn → m ≡ g.place → n ≡ f.place → (may && nat_lt m n) ≡ is_lower f g
unfolding is_lower
lower-made f g may m n a b d = agree may (may_be g Pawn) m n g.place f.place a b d

pub placed-made : (T : Sketch) (f g : Figure) (n : ℕ) → n ≡ count_by (is_lower g) T → f ≡ g → record f { place = n } ≡ placed_in T g
unfolding placed_in
placed-made T f g n e same = ap (λ (m : ℕ). record f { place = m }) e ∙ ap (λ (x : Figure). record x { place = count_by (is_lower g) T }) same

pub recounted-made : (T made : Sketch) (i : ℕ) → length T ≤ i → made ≡ map (placed_in T) (take i T) → made ≡ recounted T
unfolding recounted
recounted-made T made i past e = e ∙ ap (map (placed_in T)) (take_all i T past)
