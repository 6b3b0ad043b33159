-- Weak duality: no injection costs less than the sum of potentials that bound the cost.
use Rattle.std.proofs.Common.{◌≡◌, ℕ, zero, suc, ◌+◌, ◌<◌, List, [], ◌∷◌, length, slice_index, slice_index_or, slice_set, pos, ◌+ℤ◌, ◌≤ℤ◌, sym, refl, ap, ◌∙◌, subst, inl, inr, arith, length-set, get_or-set_same, get_or-set_other}
use Rattle.std.proofs.lemmas.Bool.{cases_eq}
use Rattle.std.specs.Prelude.{ℤ, Option, Some, None, SomeIff, IfSome}
use Rattle.std.specs.List.{All}
use Rattle.std.proofs.lemmas.Int.{ints}
use Rattle.std.proofs.lemmas.List.Elements.{All-head, All-tail, All-set}
use Rattle.assignment.specs.Tables.{cost_at}
use Rattle.assignment.specs.Assignments.{IsBounded, IsInjection, assignment_cost, total}

-- the sum of the potentials of these columns
abbrev pub along : List ℤ → List ℕ → ℤ
along v [] = pos 0
along v (j ∷ columns) = slice_index_or v j (pos 0) +ℤ along v columns

-- where a relation passes over to sums, it holds of the potentials along the columns and the cost if it does for each row
pub sums-along : (R : ℤ → ℤ → Type 0) → R (pos 0) (pos 0) → ((a b c d : ℤ) → R a b → R c d → R (a +ℤ c) (b +ℤ d))
    → (table : List (List ℕ)) (u v : List ℤ) (columns : List ℕ) → length u ≡ length table → length columns ≡ length table
    → ((i : ℕ) → i < length table → R (slice_index_or u i (pos 0) +ℤ slice_index_or v (slice_index columns i) (pos 0)) (pos (cost_at table i (slice_index columns i))))
    → R (total u +ℤ along v columns) (pos (assignment_cost table columns))
sums-along R none both [] [] v [] lu lc h = none
sums-along R none both [] (x ∷ u) v columns lu lc h = absurd (omega arith)
sums-along R none both [] [] v (j ∷ columns) lu lc h = absurd (omega arith)
sums-along R none both (row ∷ table) [] v columns lu lc h = absurd (omega arith)
sums-along R none both (row ∷ table) (x ∷ u) v [] lu lc h = absurd (omega arith)
sums-along R none both (row ∷ table) (x ∷ u) v (j ∷ columns) lu lc h =
    let y : ℤ = slice_index_or v j (pos 0) in
    let rest = sums-along R none both table u v columns (omega arith) (omega arith) (λ i lt. h (suc i) (omega arith)) in
    let all = both (x +ℤ y) (pos (slice_index row j)) (total u +ℤ along v columns) (pos (assignment_cost table columns)) (h 0 (omega arith)) rest in
    let left : ((x +ℤ y) +ℤ (total u +ℤ along v columns)) ≡ ((x +ℤ total u) +ℤ (y +ℤ along v columns)) = omega (arith, ints) in
    let right : (pos (slice_index row j) +ℤ pos (assignment_cost table columns)) ≡ pos (slice_index row j + assignment_cost table columns) = omega (arith, ints) in
    subst (λ (a : ℤ). R a (pos (slice_index row j + assignment_cost table columns))) left (subst (λ (b : ℤ). R ((x +ℤ y) +ℤ (total u +ℤ along v columns)) b) right all)

pub total-set : (v : List ℤ) (j : ℕ) (x : ℤ) → j < length v → (total (slice_set v j x) +ℤ slice_index_or v j (pos 0)) ≡ (total v +ℤ x)
total-set [] j x lt = absurd (omega arith)
total-set (y ∷ v) zero x lt = omega (arith, ints)
total-set (y ∷ v) (suc j) x lt =
    let rest = total-set v j x (omega arith) in
    omega (arith, ints)

-- a potential of a column that none of these is may change
pub along-set : (v : List ℤ) (j : ℕ) (x : ℤ) (columns : List ℕ) → ((k : ℕ) → k < length columns → slice_index columns k ≡ j → ⊥) → along (slice_set v j x) columns ≡ along v columns
along-set v j x [] none = refl
along-set v j x (i ∷ columns) none =
    let rest = along-set v j x columns (λ k lt is. none (suc k) (omega arith) is) in
    let here : slice_index_or (slice_set v j x) i (pos 0) ≡ slice_index_or v i (pos 0) = get_or-set_other v j i x (pos 0) (λ is. none 0 (omega arith) is) in
    omega (arith, ints)

pub total-below : (v : List ℤ) → All (λ x. x ≤ℤ pos 0) v → total v ≤ℤ pos 0
total-below [] h = omega (arith, ints)
total-below (x ∷ v) h =
    let here = All-head (λ x. x ≤ℤ pos 0) x v h in
    let rest = total-below v (All-tail (λ x. x ≤ℤ pos 0) x v h) in
    omega (arith, ints)

pub total-none : (v : List ℤ) → ((j : ℕ) → j < length v → slice_index_or v j (pos 0) ≡ pos 0) → total v ≡ pos 0
total-none [] h = refl
total-none (x ∷ v) h =
    let here : x ≡ pos 0 = h 0 (omega arith) in
    let rest = total-none v (λ j lt. h (suc j) (omega arith)) in
    omega (arith, ints)

-- each column stands once
abbrev pub AreApart : List ℕ → Type 0
AreApart columns = (i k : ℕ) → i < length columns → k < length columns → slice_index columns i ≡ slice_index columns k → i ≡ k

rest_apart : (j : ℕ) (columns : List ℕ) → AreApart (j ∷ columns) → AreApart columns
rest_apart j columns apart i k li lk same =
    let next = apart (suc i) (suc k) (omega arith) (omega arith) same in
    omega arith

first_apart : (j : ℕ) (columns : List ℕ) → AreApart (j ∷ columns) → (k : ℕ) → k < length columns → slice_index columns k ≡ j → ⊥
first_apart j columns apart k lt is =
    let next = apart (suc k) 0 (omega arith) (omega arith) is in
    omega arith

not_first : (i j : ℕ) (columns : List ℕ) → (i ≡ j → ⊥) → ((k : ℕ) → k < length columns → slice_index columns k ≡ i → ⊥)
    → (k : ℕ) → k < length (j ∷ columns) → slice_index (j ∷ columns) k ≡ i → ⊥
not_first i j columns other none zero lt is = other (sym is)
not_first i j columns other none (suc k) lt is = none k (omega arith) is

-- with no potential above 0, the sum of all is no more than that of some
pub total-le_along : (columns : List ℕ) (v : List ℤ) → All (λ j. j < length v) columns → AreApart columns → All (λ x. x ≤ℤ pos 0) v → total v ≤ℤ along v columns
total-le_along [] v within apart below = total-below v below
total-le_along (j ∷ columns) v within apart below =
    let lt : j < length v = All-head (λ j. j < length v) j columns within in
    let w = slice_set v j (pos 0) in
    let size : length w ≡ length v = length-set v j (pos 0) in
    let rest = total-le_along columns w
    (let P : ℕ → Type 0 = λ n. All (λ j. j < n) columns in subst P (sym size) (All-tail (λ j. j < length v) j columns within))
    (rest_apart j columns apart)
    (All-set (λ x. x ≤ℤ pos 0) v j (pos 0) (omega (arith, ints)) below) in
    let same = along-set v j (pos 0) columns (first_apart j columns apart) in
    let sum = total-set v j (pos 0) lt in
    omega (arith, ints)

-- with potentials of 0 elsewhere, the sum of all is that of these
pub total-is_along : (columns : List ℕ) (v : List ℤ) → All (λ j. j < length v) columns → AreApart columns
    → ((j : ℕ) → j < length v → ((k : ℕ) → k < length columns → slice_index columns k ≡ j → ⊥) → slice_index_or v j (pos 0) ≡ pos 0) → total v ≡ along v columns
total-is_along [] v within apart idle = total-none v (λ j lt. idle j lt (λ k none is. omega arith))
total-is_along (j ∷ columns) v within apart idle =
    let lt : j < length v = All-head (λ j. j < length v) j columns within in
    let w = slice_set v j (pos 0) in
    let size : length w ≡ length v = length-set v j (pos 0) in
    let rest = total-is_along columns w
    (let P : ℕ → Type 0 = λ n. All (λ j. j < n) columns in subst P (sym size) (All-tail (λ j. j < length v) j columns within))
    (rest_apart j columns apart)
    (λ i low none. elim (cases_eq i j) [
      | inl is ↦ ap (λ (i : ℕ). slice_index_or w i (pos 0)) is ∙ get_or-set_same v j (pos 0) (pos 0) lt
      | inr other ↦ get_or-set_other v j i (pos 0) (pos 0) other ∙ idle i (omega arith) (not_first i j columns other none)
    ]) in
    let same = along-set v j (pos 0) columns (first_apart j columns apart) in
    let sum = total-set v j (pos 0) lt in
    omega (arith, ints)

pub weak_duality : (width : ℕ) (table : List (List ℕ)) (u v : List ℤ) (columns : List ℕ) → IsBounded width table u v → IsInjection width (length table) columns
    → (total u +ℤ total v) ≤ℤ pos (assignment_cost table columns)
weak_duality width table u v columns bounded injection =
    let pairs = sums-along (λ a b. a ≤ℤ b) (omega (arith, ints)) (λ a b c d first rest. omega (arith, ints)) table u v columns bounded.rows injection.size
    (λ i lt. bounded.pairs i (slice_index columns i) lt (injection.within i 0 (omega (arith, injection.size)))) in
    let P : ℕ → Type 0 = λ n. All (λ j. j < n) columns in
    let prices = total-le_along columns v (subst P (sym bounded.columns) injection.within) injection.apart bounded.below in
    omega (arith, ints)

-- where the sum of potentials is answered only if they bound the cost, no injection costs less than the answer
pub no_less : (width : ℕ) (table : List (List ℕ)) (u v : List ℤ) (answer : Option ℤ) → SomeIff answer (IsBounded width table u v) (total u +ℤ total v)
    → IfSome answer (λ sum. (columns : List ℕ) → IsInjection width (length table) columns → sum ≤ℤ pos (assignment_cost table columns))
no_less width table u v None h = tt
no_less width table u v (Some sum) h = λ columns injection. let low = weak_duality width table u v columns h.0 injection in let is = h.1 in omega (arith, ints)
