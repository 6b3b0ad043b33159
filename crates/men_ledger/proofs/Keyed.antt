-- Sums over a list by a key of each of its items: what stands under each of different keys is in all what the list has.
use Rattle.std.proofs.Common.{Bool, true, false, cond, ◌≡◌, ◌≢◌, ℕ, suc, ◌+◌, ◌==◌, inl, inr, List, [], ◌∷◌, length, map, refl, ap, sym, ◌∙◌, subst, arith}
use Rattle.std.proofs.lemmas.List.{get_or-map, length-map}
use Rattle.std.proofs.lemmas.Bool.{cases_eq, cond-true, cond-false, eq-eqb, ne_eqb}
use Rattle.std.proofs.lemmas.List.Sums.{sum_by-cons}
use Rattle.std.specs.List.{AllPairs, Contains, filter, sum_by}
use Rattle.general_lemmas.proofs.Differing.{Has, Differ, contains-has, differ-apart, has-contains}
use Rattle.general_lemmas.proofs.Lists.{contains-first, contains-later, contains-none, contains-cases, contains-map}
use Rattle.general_lemmas.proofs.SumsAmong.{sum-both}

pub sum-same : {A : Type 0} (f g : A → ℕ) (xs : List A) → ((x : A) → f x ≡ g x) → sum_by f xs ≡ sum_by g xs
sum-same f g [] same = refl
sum-same f g (x ∷ xs) same = omega (arith, sum_by-cons f x xs, sum_by-cons g x xs, same x, sum-same f g xs same)

pub sum-zeros : {A : Type 0} (f : A → ℕ) (xs : List A) → ((x : A) → f x ≡ 0) → sum_by f xs ≡ 0
sum-zeros f [] none = refl
sum-zeros f (x ∷ xs) none = omega (arith, sum_by-cons f x xs, none x, sum-zeros f xs none)

-- a value under one key alone
sum-elsewhere : (t k : ℕ) (ks : List ℕ) → (Has ks t → ⊥) → sum_by (λ h. cond (t == h) k 0) ks ≡ 0
sum-elsewhere t k [] away = refl
sum-elsewhere t k (h ∷ ks) away =
    let none : cond (t == h) k 0 ≡ 0 = cond-false _ k 0 (ne_eqb t h (λ e. away (inl (sym e)))) in
    omega (arith, sum_by-cons (λ i. cond (t == i) k 0) h ks, none, sum-elsewhere t k ks (λ there. away (inr there)))

pub sum-once : (t k : ℕ) (ks : List ℕ) → Differ ks → Has ks t → sum_by (λ h. cond (t == h) k 0) ks ≡ k
sum-once t k [] d there = elim there [ ]
sum-once t k (h ∷ ks) d there = elim (cases_eq t h) [
  | inl same ↦
      let here : cond (t == h) k 0 ≡ k = cond-true _ k 0 (eq-eqb t h same) in
      omega (arith, sum_by-cons (λ i. cond (t == i) k 0) h ks, here, sum-elsewhere t k ks (λ later. d.0 (subst (Has ks) same later)))
  | inr other ↦
      let none : cond (t == h) k 0 ≡ 0 = cond-false _ k 0 (ne_eqb t h other) in
      let later : Has ks t = elim there [ inl same ↦ absurd (other (sym same)) | inr later ↦ later ] in
      omega (arith, sum_by-cons (λ i. cond (t == i) k 0) h ks, none, sum-once t k ks d.1 later)
]

-- the values under each of different keys, among which are those of all items
pub sum-keyed : {A : Type 0} (key f : A → ℕ) (ks : List ℕ) (xs : List A) → Differ ks → ((x : A) → Contains xs x → Has ks (key x)) → sum_by (λ h. sum_by (λ x. cond (key x == h) (f x) 0) xs) ks ≡ sum_by f xs
sum-keyed key f ks [] d among = sum-zeros (λ h. sum_by (λ x. cond (key x == h) (f x) 0) []) ks (λ h. refl)
sum-keyed key f ks (x ∷ xs) d among =
    let split = sum-same (λ h. sum_by (λ y. cond (key y == h) (f y) 0) (x ∷ xs)) (λ h. cond (key x == h) (f x) 0 + sum_by (λ y. cond (key y == h) (f y) 0) xs) ks (λ h. sum_by-cons (λ y. cond (key y == h) (f y) 0) x xs) in
    let parts = sum-both (λ h. cond (key x == h) (f x) 0) (λ h. sum_by (λ y. cond (key y == h) (f y) 0) xs) ks in
    let first = sum-once (key x) (f x) ks d (among x (contains-first x xs)) in
    let rest = sum-keyed key f ks xs d (λ y there. among y (contains-later x xs y there)) in
    omega (arith, split, parts, first, rest, sum_by-cons f x xs)

picked-more : {A : Type 0} (f : ℕ → ℕ) (value : A → ℕ) (b : Bool) (x : A) (xs : List A) → sum_by f (map value (cond b (x ∷ xs) xs)) ≡ cond b (f (value x)) 0 + sum_by f (map value xs)
picked-more f value true x xs = sum_by-cons f (value x) (map value xs)
picked-more f value false x xs = omega arith

-- the items that pass a test
pub sum-picked : {A : Type 0} (f : ℕ → ℕ) (value : A → ℕ) (p : A → Bool) (xs : List A) → sum_by f (map value (filter p xs)) ≡ sum_by (λ x. cond (p x) (f (value x)) 0) xs
sum-picked f value p [] = refl
sum-picked f value p (x ∷ xs) = omega (arith, picked-more f value (p x) x (filter p xs), sum-picked f value p xs, sum_by-cons (λ y. cond (p y) (f (value y)) 0) x xs)

-- the values of different keys, summed key by key
pub sum-by-keys : {A : Type 0} (f : ℕ → ℕ) (value key : A → ℕ) (ks : List ℕ) (xs : List A) → Differ ks → ((x : A) → Contains xs x → Has ks (key x)) → sum_by (λ h. sum_by f (map value (filter (λ x. key x == h) xs))) ks ≡ sum_by (λ x. f (value x)) xs
sum-by-keys f value key ks xs d among =
    sum-same (λ h. sum_by f (map value (filter (λ x. key x == h) xs))) (λ h. sum_by (λ x. cond (key x == h) (f (value x)) 0) xs) ks (λ h. sum-picked f value (λ x. key x == h) xs)
    ∙ sum-keyed key (λ x. f (value x)) ks xs d among

pub none-picked : {A : Type 0} (p : A → Bool) (xs : List A) → ((x : A) → Contains xs x → p x ≡ false) → filter p xs ≡ []
none-picked p [] none = refl
none-picked p (x ∷ xs) none = cond-false (p x) (x ∷ filter p xs) (filter p xs) (none x (contains-first x xs)) ∙ none-picked p xs (λ y there. none y (contains-later x xs y there))

-- an item whose key no other has
pub key-alone : {A : Type 0} (key : A → ℕ) (xs : List A) (x : A) → Differ (map key xs) → Contains xs x → filter (λ y. key y == key x) xs ≡ x ∷ []
key-alone {A} key [] x d there = absurd (contains-none x there)
key-alone {A} key (y ∷ ys) x d there = elim (contains-cases y ys x there) [
  | inl same ↦
      let rest : filter (λ z. key z == key x) ys ≡ [] = none-picked (λ z. key z == key x) ys (λ z later. ne_eqb (key z) (key x) (λ e. d.0 (subst (Has (map key ys)) (e ∙ sym (ap key same)) (contains-has (map key ys) (key z) (contains-map key ys z later))))) in
      cond-true (key y == key x) (y ∷ filter (λ z. key z == key x) ys) (filter (λ z. key z == key x) ys) (eq-eqb (key y) (key x) (ap key same)) ∙ ap (λ (l : List A). y ∷ l) rest ∙ ap (λ (z : A). z ∷ []) same
  | inr later ↦
      let other : key y ≡ key x → ⊥ = λ e. d.0 (subst (Has (map key ys)) (sym e) (contains-has (map key ys) (key x) (contains-map key ys x later))) in
      cond-false (key y == key x) (y ∷ filter (λ z. key z == key x) ys) (filter (λ z. key z == key x) ys) (ne_eqb (key y) (key x) other) ∙ key-alone key ys x d.1 later
]

-- different numbers, as the laws say it
pub differ-pairs : (xs : List ℕ) → AllPairs (λ x y. x ≢ y) xs → Differ xs
differ-pairs [] pairs = tt
differ-pairs (x ∷ xs) pairs = (
  λ h. let it = has-contains xs x h in pairs 0 (suc it.0) x (omega arith) (let small = it.1 in omega arith) (sym it.2),
  differ-pairs xs (λ i j d low high. pairs (suc i) (suc j) d (omega arith) (omega arith)),
)

pub pairs-keys : {A : Type 0} (key : A → ℕ) (xs : List A) → Differ (map key xs) → AllPairs (λ x y. key x ≢ key y) xs
pairs-keys {A} key xs h i j d low high = λ same.
    let size : length (map key xs) ≡ length xs = length-map xs key in
    let one = differ-apart (map key xs) h i j 0 (omega arith) (omega arith) (get_or-map key xs i d 0 (omega arith) ∙ same ∙ sym (get_or-map key xs j d 0 high)) in
    omega arith
