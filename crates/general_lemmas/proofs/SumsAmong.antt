-- Sums over lists of numbers: a list of different numbers that all stand in another has no larger sum.
use Rattle.std.proofs.Common.{Bool, true, false, cond, ◌≡◌, ◌⊎◌, ℕ, ◌+◌, ◌<◌, ◌≤◌, ◌==◌, cond, inl, inr, List, [], ◌∷◌, length, refl, ap, sym, ◌∙◌, subst, arith}
use Rattle.std.proofs.lemmas.Bool.{cond-true, eq-eqb, eqb-true}
use Rattle.std.proofs.lemmas.Option.{cond_some}
use Rattle.std.proofs.lemmas.List.Sums.{sum_by-cons}
use Rattle.std.specs.Prelude.{Option, Some, None}
use Rattle.std.specs.List.{filter, sum_by, cons_option, filter_map, range_with_len}
use Rattle.general_lemmas.proofs.Differing.{Has, Differ, LeadsApart, has-led, differ-led, has-range, range-has, differ-range}

-- a list without one of its members
record Without (ys : List ℕ) (y : ℕ) : Type 0 where
  rest : List ℕ
  sums : (f : ℕ → ℕ) → sum_by f ys ≡ f y + sum_by f rest
  keeps : (z : ℕ) → Has ys z → (y ≡ z) ⊎ Has rest z

without : (ys : List ℕ) (y : ℕ) → Has ys y → Without ys y
without [] y h = elim h [ ]
without (x ∷ ys) y h = elim h [
  | inl e ↦ record {
    rest = ys;
    sums = λ f. sum_by-cons f x ys ∙ ap (λ (k : ℕ). f k + sum_by f ys) e;
    keeps = λ z there. elim there [ inl same ↦ inl (sym e ∙ same) | inr later ↦ inr later ];
  }
  | inr there ↦
      let out = without ys y there in
      record {
        rest = x ∷ out.rest;
        sums = λ f. omega (arith, sum_by-cons f x ys, sum_by-cons f x out.rest, out.sums f);
        keeps = λ z in_all. elim in_all [
          | inl same ↦ inr (inl same)
          | inr later ↦ elim (out.keeps z later) [ inl same ↦ inl same | inr kept ↦ inr (inr kept) ]
        ];
      }
]

-- different numbers that all stand in another list
pub sum-among : (f : ℕ → ℕ) (xs ys : List ℕ) → Differ xs → ((z : ℕ) → Has xs z → Has ys z) → sum_by f xs ≤ sum_by f ys
sum-among f [] ys d among = let none : sum_by f [] ≡ 0 = refl in omega arith
sum-among f (x ∷ xs) ys d among =
    let out = without ys x (among x (inl refl)) in
    let fewer : sum_by f xs ≤ sum_by f out.rest = sum-among f xs out.rest d.1 (λ z h. elim (out.keeps z (among z (inr h))) [
      | inl same ↦ absurd (d.0 (subst (Has xs) (sym same) h))
      | inr kept ↦ kept
    ]) in
    omega (arith, sum_by-cons f x xs, out.sums f)

-- the value at a number, if there is one
abbrev pub value_at : (ℕ → ℕ) → Option ℕ → ℕ
value_at f None = 0
value_at f (Some u) = f u

sum-option : (f : ℕ → ℕ) (o : Option ℕ) (xs : List ℕ) → sum_by f (cons_option o xs) ≡ value_at f o + sum_by f xs
sum-option f None xs = omega arith
sum-option f (Some u) xs = sum_by-cons f u xs

pub sum-led : (f : ℕ → ℕ) (to : ℕ → Option ℕ) (ks : List ℕ) → sum_by f (filter_map to ks) ≡ sum_by (λ k. value_at f (to k)) ks
sum-led f to [] = refl
sum-led f to (k ∷ ks) = sum-option f (to k) (filter_map to ks) ∙ ap (λ (n : ℕ). value_at f (to k) + n) (sum-led f to ks) ∙ sym (sum_by-cons (λ i. value_at f (to i)) k ks)

-- where no two numbers lead to one, the values that they lead to have no larger sum than all values
pub sum-through : (f : ℕ → ℕ) (to : ℕ → Option ℕ) (n m : ℕ) → LeadsApart to → ((s u : ℕ) → s < n → to s ≡ Some u → u < m) → sum_by (λ s. value_at f (to s)) (range_with_len 0 n) ≤ sum_by f (range_with_len 0 m)
sum-through f to n m apart within =
    let all = sum-among f (filter_map to (range_with_len 0 n)) (range_with_len 0 m) (differ-led to apart (range_with_len 0 n) (differ-range 0 n)) (λ z h.
    let found = has-led to (range_with_len 0 n) z h in has-range 0 m z (omega arith) (let inside = within found.0 z (let small = (range-has 0 n found.0 found.1).1 in omega arith) found.2 in omega arith)) in
    omega (arith, all, sum-led f to (range_with_len 0 n))

-- a sum of sums
pub sum-both : (f g : ℕ → ℕ) (xs : List ℕ) → sum_by (λ s. f s + g s) xs ≡ sum_by f xs + sum_by g xs
sum-both f g [] = refl
sum-both f g (x ∷ xs) = omega (arith, sum_by-cons (λ s. f s + g s) x xs, sum_by-cons f x xs, sum_by-cons g x xs, sum-both f g xs)

-- k at one number, and 0 at all others
abbrev pub at_only : ℕ → ℕ → ℕ → ℕ
at_only t k s = value_at (λ _. k) (cond (s == t) (Some 0) None)

only-leads : (t : ℕ) → LeadsApart (λ s. cond (s == t) (Some 0) None)
only-leads t a b u ha hb = eqb-true a t (cond_some _ 0 u ha).0 ∙ sym (eqb-true b t (cond_some _ 0 u hb).0)

pub sum-only : (t k n : ℕ) → sum_by (at_only t k) (range_with_len 0 n) ≤ k
sum-only t k n =
    let few = sum-through (λ _. k) (λ s. cond (s == t) (Some 0) None) n 1 (only-leads t) (λ s u small h. let e : 0 ≡ u = (cond_some (s == t) 0 u h).1 in omega arith) in
    let one : sum_by (λ (_ : ℕ). k) (range_with_len 0 1) ≡ 0 + k = refl in
    omega arith

pub only-there : (t k s : ℕ) → s ≡ t → at_only t k s ≡ k
only-there t k s e = ap (value_at (λ _. k)) (cond-true _ (Some 0) None (eq-eqb s t e))

sum-kept : (f : ℕ → ℕ) (b : Bool) (x : ℕ) (xs : List ℕ) → sum_by f (cond b (x ∷ xs) xs) ≤ f x + sum_by f xs
sum-kept f true x xs = omega (arith, sum_by-cons f x xs)
sum-kept f false x xs = omega arith

pub sum-filter : (f : ℕ → ℕ) (p : ℕ → Bool) (xs : List ℕ) → sum_by f (filter p xs) ≤ sum_by f xs
sum-filter f p [] = omega arith
sum-filter f p (x ∷ xs) = omega (arith, sum-kept f (p x) x (filter p xs), sum_by-cons f x xs, sum-filter f p xs)

-- a value of 1 at each member
pub sum-ones : (f : ℕ → ℕ) (xs : List ℕ) → ((z : ℕ) → Has xs z → f z ≡ 1) → sum_by f xs ≡ length xs
sum-ones f [] h = refl
sum-ones f (x ∷ xs) h = omega (arith, sum_by-cons f x xs, h x (inl refl), sum-ones f xs (λ z there. h z (inr there)))
