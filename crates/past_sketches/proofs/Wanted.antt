-- Before the first move there are as many homes as figures want: no two of them share one.
use Rattle.std.proofs.Common.{◌≡◌, ℕ, zero, suc, ◌+◌, ◌<◌, ◌≤◌, ◌==◌, inl, inr, Bool, true, false, cond, ◌&&◌, ◌||◌, not, List, [], ◌∷◌, refl, ap, ◌∙◌, subst, arith}
use Rattle.std.proofs.lemmas.Bool.{and_parts, and_from, both_ways, cases_Bool, cases_eq, eq-eqb, false_from_ne_true, ltb-true, ne_eqb, not_from_false, not-true, or_cases}
use Rattle.std.proofs.lemmas.List.Sums.{sum_by-cons}
use Rattle.std.specs.Prelude.{Some}
use Rattle.std.specs.List.{count_by, range_with_len}
use Rattle.general_lemmas.proofs.Counts.{count-cons, one_if, one_if-more}
use Rattle.general_lemmas.proofs.Ranges.{all_in_range}
use Rattle.men_account.proofs.Labelled.{first-is}
use Rattle.past_sketches.specs.Figures.{Figure, Sketch, figure_at}
use Rattle.past_sketches.specs.Homes.{has_homes, is_home, lives_within, may_be_array}
use Rattle.past_sketches.specs.Fits.{Fits}
use Rattle.past_sketches.proofs.Sketches.{each-figure}
use Rattle.past_sketches.proofs.Wider.{begins}

counts-le : (p q : ℕ → Bool) (xs : List ℕ) → ((s : ℕ) → p s ≡ true → q s ≡ true) → count_by p xs ≤ count_by q xs
counts-le p q [] implied = omega arith
counts-le p q (x ∷ xs) implied = omega (arith, count-cons p x xs, count-cons q x xs, counts-le p q xs implied, one_if-more (p x) (q x) (implied x))

-- the numbers that pass a test but this one
abbrev but : (ℕ → Bool) → ℕ → ℕ → Bool
but h a s = h s && not (s == a)

but-less : (h : ℕ → Bool) (a n k : ℕ) → k ≤ a → a < k + n → h a ≡ true → count_by (but h a) (range_with_len k n) < count_by h (range_with_len k n)
but-less h a zero k low high has = absurd (omega (arith, low, high))
but-less h a (suc n) k low high has = elim (cases_eq k a) [
  | inl here ↦
      let x : one_if (h k) ≡ 1 = ap (λ (s : ℕ). one_if (h s)) here ∙ ap one_if has in
      let none : but h a k ≡ false = false_from_ne_true _ (λ both. both_ways _ (not-true _ (and_parts (h k) _ both).1) (eq-eqb k a here)) in
      let y : one_if (but h a k) ≡ 0 = ap one_if none in
      omega (arith, x, y, count-cons h k (range_with_len (k + 1) n), count-cons (but h a) k (range_with_len (k + 1) n), counts-le (but h a) h (range_with_len (k + 1) n) (λ s both. (and_parts (h s) _ both).0))
  | inr later ↦
      omega (arith, count-cons h k (range_with_len (k + 1) n), count-cons (but h a) k (range_with_len (k + 1) n), but-less h a n (k + 1) (omega (arith, low, later)) (omega (arith, high)) has, one_if-more (but h a k) (h k) (λ both. (and_parts (h k) _ both).0))
]

-- figures that pass a test, each with a number of his own among these
pub fewer : (T : Sketch) (q : Figure → Bool) (h : ℕ → Bool) (label : ℕ → ℕ) → ((i : ℕ) (f : Figure) → figure_at T i ≡ Some f → q f ≡ true → (label i < 64) × (h (label i) ≡ true)) → ((i j : ℕ) (f g : Figure) → figure_at T i ≡ Some f → figure_at T j ≡ Some g → label i ≡ label j → i ≡ j) → count_by q T ≤ count_by h (range_with_len 0 64)
fewer [] q h label at_home apart = omega arith
fewer (g ∷ T) q h label at_home apart = elim (cases_Bool (q g)) [
  | inl passes ↦
      let mine = at_home 0 g refl passes in
      let rest : count_by q T ≤ count_by (but h (label 0)) (range_with_len 0 64) = fewer T q (but h (label 0)) (λ i. label (suc i)) (λ i f found his.
      let home = at_home (suc i) f found his in
      (home.0, and_from _ _ home.1 (not_from_false _ (ne_eqb _ _ (λ same. absurd (let e : suc i ≡ 0 = apart (suc i) 0 f g found refl same in omega (arith, e))))))) later in
      let x : one_if (q g) ≡ 1 = ap one_if passes in
      omega (arith, x, rest, sum_by-cons (λ f. cond (q f) 1 0) g T, but-less h (label 0) 64 0 (omega arith) (omega (arith, mine.0)) mine.1)
  | inr fails ↦
      let rest : count_by q T ≤ count_by h (range_with_len 0 64) = fewer T q h (λ i. label (suc i)) (λ i f found his. at_home (suc i) f found his) later in
      let x : one_if (q g) ≡ 0 = ap one_if fails in
      omega (arith, x, rest, sum_by-cons (λ f. cond (q f) 1 0) g T)
]
  where
    later : (i j : ℕ) (f k : Figure) → figure_at T i ≡ Some f → figure_at T j ≡ Some k → label (suc i) ≡ label (suc j) → i ≡ j
    later i j f k e1 e2 same = let e : suc i ≡ suc j = apart (suc i) (suc j) f k e1 e2 same in omega (arith, e)

-- who lives within a figure's homes begins on one of these
at-home : (o : List Bool) (T : Sketch) → (fits : Fits o [] T) → (f : Figure) (i : ℕ) (g : Figure) → figure_at T i ≡ Some g → lives_within o f g ≡ true → (fits.label i < 64) × (is_home o f (fits.label i) ≡ true)
at-home o T fits f i g found within =
    let his = fits.stand i g found in
    let home = begins o g (fits.label i) his.0 his.1 his.2 in
    let same : his.0 ≡ fits.label i = first-is o his.0 (fits.label i) his.2.label in
    let shared : is_home o f his.0 ≡ true = elim (or_cases _ _ (all_in_range (λ h. not (is_home o g h) || is_home o f h) 0 64 his.0 within (omega arith) (omega (arith, home.0)))) [
      | inl none ↦ absurd (both_ways _ (not-true _ none) home.1)
      | inr has ↦ has
    ] in
    subst (λ (s : ℕ). (s < 64) × (is_home o f s ≡ true)) same (home.0, shared)

pub array-begins : (o : List Bool) (T : Sketch) → Fits o [] T → may_be_array o T ≡ true
unfolding may_be_array
array-begins o T fits = each-figure T (has_homes o T) (λ n f found. not_from_false _ (false_from_ne_true _ (λ more.
    let few : count_by (lives_within o f) T ≤ count_by (is_home o f) (range_with_len 0 64) = fewer T (lives_within o f) (is_home o f) fits.label (at-home o T fits f) fits.apart in
    let many = ltb-true _ _ more in
    absurd (omega (arith, few, many)))))
