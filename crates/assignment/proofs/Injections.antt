-- The list of all injections has each injection and nothing else, and the least cost is that of one of them.
use Rattle.std.proofs.Common.{◌≡◌, ℕ, zero, suc, ◌<◌, ◌≤◌, ◌⊎◌, Bool, true, false, not, List, [], ◌∷◌, length, map, min, slice_index, sym, refl, ap, ◌∙◌, subst, inl, inr, arith}
use Rattle.std.specs.List.{Contains, filter, fold, range_with_len}
use Rattle.std.proofs.lemmas.Bool.{cases_lt}
use Rattle.std.proofs.lemmas.Bool.Decides.{nat_tests}
use Rattle.std.proofs.lemmas.List.Elements.{All-cons, All-tail, All-head, All-nil}
use Rattle.std.proofs.lemmas.List.FromFn.{get_or-range_with_len, length-range_with_len}
use Rattle.general_lemmas.proofs.Lists.{contains-cases, contains-filter, contains-first, contains-flat_map, contains-later, contains-map, contains-none, filter-contains, flat_map-contains, map-contains}
use Rattle.general_lemmas.proofs.Ranges.{contains-range, range-contains}
use Rattle.assignment.specs.Assignments.{IsInjection, assignment_cost, injections, is_among, least_cost, least_of}

pub other_column : (j : ℕ) (columns : List ℕ) → ((k : ℕ) → k < length columns → slice_index columns k ≡ j → ⊥) → is_among j columns ≡ false
other_column j [] none = refl
other_column j (i ∷ columns) none =
    let here : i ≡ j → ⊥ = none 0 (omega arith) in
    let rest = other_column j columns (λ k lt is. none (suc k) (omega arith) is) in
    grind (arith, nat_tests)

none_among : (j : ℕ) (columns : List ℕ) → is_among j columns ≡ false → (k : ℕ) → k < length columns → slice_index columns k ≡ j → ⊥
none_among j [] e k lt is = omega arith
none_among j (i ∷ columns) e zero lt is = grind (arith, nat_tests)
none_among j (i ∷ columns) e (suc k) lt is =
    let rest : is_among j columns ≡ false = grind (arith, nat_tests) in
    none_among j columns rest k (omega arith) is

IsInjection-rest : (width rows j : ℕ) (columns : List ℕ) → IsInjection width (suc rows) (j ∷ columns) → IsInjection width rows columns
IsInjection-rest width rows j columns h = record {
  size = omega (arith, h.size);
  within = All-tail (λ j. j < width) j columns h.within;
  apart = λ i k li lk same. let next = h.apart (suc i) (suc k) (omega arith) (omega arith) same in omega arith;
}

first_is_other : (width rows j : ℕ) (columns : List ℕ) → IsInjection width (suc rows) (j ∷ columns) → (k : ℕ) → k < length columns → slice_index columns k ≡ j → ⊥
first_is_other width rows j columns h k lt is =
    let next = h.apart (suc k) 0 (omega arith) (omega arith) is in
    omega arith

-- one more column, before others that it is none of
apart_more : (j : ℕ) (columns : List ℕ) → ((i k : ℕ) → i < length columns → k < length columns → slice_index columns i ≡ slice_index columns k → i ≡ k)
    → ((k : ℕ) → k < length columns → slice_index columns k ≡ j → ⊥)
    → (i k : ℕ) → i < length (j ∷ columns) → k < length (j ∷ columns) → slice_index (j ∷ columns) i ≡ slice_index (j ∷ columns) k → i ≡ k
apart_more j columns apart other zero zero li lk same = refl
apart_more j columns apart other zero (suc k) li lk same = absurd (other k (omega arith) (sym same))
apart_more j columns apart other (suc i) zero li lk same = absurd (other i (omega arith) same)
apart_more j columns apart other (suc i) (suc k) li lk same = ap suc (apart i k (omega arith) (omega arith) same)

IsInjection-more : (width rows j : ℕ) (columns : List ℕ) → IsInjection width rows columns → j < width → ((k : ℕ) → k < length columns → slice_index columns k ≡ j → ⊥)
    → IsInjection width (suc rows) (j ∷ columns)
IsInjection-more width rows j columns h lt other = record {
  size = omega (arith, h.size);
  within = All-cons (λ j. j < width) j columns lt h.within;
  apart = apart_more j columns h.apart other;
}

-- each injection is in the list
pub injections-complete : (width rows : ℕ) (columns : List ℕ) → IsInjection width rows columns → Contains (injections width rows) columns
unfolding injections
injections-complete width zero [] h = contains-first [] []
injections-complete width zero (j ∷ columns) h = absurd (omega (arith, h.size))
injections-complete width (suc rows) [] h = absurd (omega (arith, h.size))
injections-complete width (suc rows) (j ∷ columns) h =
    let rest = injections-complete width rows columns (IsInjection-rest width rows j columns h) in
    let free : is_among j columns ≡ false = other_column j columns (first_is_other width rows j columns h) in
    let lt : j < width = All-head (λ j. j < width) j columns h.within in
    contains-flat_map (λ columns. map (λ j. j ∷ columns) (filter (λ j. not (is_among j columns)) (range_with_len 0 width))) (injections width rows) columns (j ∷ columns) rest
    (contains-map (λ j. j ∷ columns) (filter (λ j. not (is_among j columns)) (range_with_len 0 width)) j
    (contains-filter (λ j. not (is_among j columns)) (range_with_len 0 width) j (contains-range 0 width j (omega arith) (omega arith)) (ap not free)))

not_true : (b : Bool) → not b ≡ true → b ≡ false
not_true true e = sym e
not_true false e = refl

-- the list has nothing else
pub injections-sound : (width rows : ℕ) (columns : List ℕ) → Contains (injections width rows) columns → IsInjection width rows columns
unfolding injections
injections-sound width zero columns h = elim (contains-cases [] [] columns h) [
  | inl same ↦ subst (λ (l : List ℕ). IsInjection width zero l) same (record { size = refl; within = All-nil (λ j. j < width); apart = λ i k li lk same. absurd (omega arith) })
  | inr later ↦ absurd (contains-none columns later)
]
injections-sound width (suc rows) columns h =
    let with_rest = flat_map-contains (λ columns. map (λ j. j ∷ columns) (filter (λ j. not (is_among j columns)) (range_with_len 0 width))) (injections width rows) columns h in
    let rest = with_rest.0 in
    let first = map-contains (λ j. j ∷ rest) (filter (λ j. not (is_among j rest)) (range_with_len 0 width)) columns with_rest.2 in
    let passes = filter-contains (λ j. not (is_among j rest)) (range_with_len 0 width) first.0 first.1 in
    let free : is_among first.0 rest ≡ false = not_true (is_among first.0 rest) passes.1 in
    subst (λ (l : List ℕ). IsInjection width (suc rows) l) first.2
    (IsInjection-more width rows first.0 rest (injections-sound width rows rest with_rest.1) (let below = (range-contains 0 width first.0 passes.0).1 in omega arith) (none_among first.0 rest free))

min_cases : (a b : ℕ) → (min a b ≡ a) ⊎ (min a b ≡ b)
min_cases a b = elim (cases_lt a b) [ inl lt ↦ inl (omega arith) | inr ge ↦ inr (omega arith) ]

fold-min_start : (a : ℕ) (xs : List ℕ) → fold min a xs ≤ a
fold-min_start a [] = omega arith
fold-min_start a (x ∷ xs) = let rest = fold-min_start (min a x) xs in omega arith

fold-min_among : (a : ℕ) (xs : List ℕ) (x : ℕ) → Contains xs x → fold min a xs ≤ x
fold-min_among a [] x h = absurd (contains-none x h)
fold-min_among a (y ∷ xs) x h = elim (contains-cases y xs x h) [
  | inl same ↦ let start = fold-min_start (min a y) xs in omega arith
  | inr later ↦ fold-min_among (min a y) xs x later
]

fold-min_is : (a : ℕ) (xs : List ℕ) → Contains (a ∷ xs) (fold min a xs)
fold-min_is a [] = contains-first a []
fold-min_is a (y ∷ xs) = elim (contains-cases (min a y) xs (fold min (min a y) xs) (fold-min_is (min a y) xs)) [
  | inl same ↦ elim (min_cases a y) [
    | inl e ↦ (0, omega arith, sym e ∙ same)
    | inr e ↦ (1, omega arith, sym e ∙ same)
  ]
  | inr later ↦ contains-later a (y ∷ xs) _ (contains-later y xs _ later)
]

pub least_of-le : (xs : List ℕ) (x : ℕ) → Contains xs x → least_of xs ≤ x
least_of-le [] x h = absurd (contains-none x h)
least_of-le (a ∷ xs) x h = elim (contains-cases a xs x h) [
  | inl same ↦ let start = fold-min_start a xs in omega arith
  | inr later ↦ fold-min_among a xs x later
]

pub least_of-is : (xs : List ℕ) (x : ℕ) → Contains xs x → Contains xs (least_of xs)
least_of-is [] x h = absurd (contains-none x h)
least_of-is (a ∷ xs) x h = fold-min_is a xs

-- no injection costs less than the least cost
pub least_cost-le : (width : ℕ) (table : List (List ℕ)) (columns : List ℕ) → IsInjection width (length table) columns → least_cost width table ≤ assignment_cost table columns
unfolding least_cost
least_cost-le width table columns h =
    least_of-le (map (assignment_cost table) (injections width (length table))) (assignment_cost table columns)
    (contains-map (assignment_cost table) (injections width (length table)) columns (injections-complete width (length table) columns h))

-- where there is an injection, one has the least cost
pub least_cost-is : (width : ℕ) (table : List (List ℕ)) (columns : List ℕ) → IsInjection width (length table) columns
    → (best : List ℕ) × IsInjection width (length table) best × (assignment_cost table best ≡ least_cost width table)
unfolding least_cost
least_cost-is width table columns h =
    let some = least_of-is (map (assignment_cost table) (injections width (length table))) (assignment_cost table columns)
    (contains-map (assignment_cost table) (injections width (length table)) columns (injections-complete width (length table) columns h)) in
    let best = map-contains (assignment_cost table) (injections width (length table)) (least_of (map (assignment_cost table) (injections width (length table)))) some in
    (best.0, injections-sound width (length table) best.0 best.1, best.2)

-- the columns in order are an injection
pub IsInjection-range : (width rows : ℕ) → rows ≤ width → IsInjection width rows (range_with_len 0 rows)
IsInjection-range width rows le = record {
  size = length-range_with_len 0 rows;
  within = λ k d lt. let low : k < rows = omega (arith, length-range_with_len 0 rows) in let at = get_or-range_with_len 0 rows k d low in omega arith;
  apart = λ i k li lk same.
      let low_i : i < rows = omega (arith, length-range_with_len 0 rows) in
      let low_k : k < rows = omega (arith, length-range_with_len 0 rows) in
      let at_i = get_or-range_with_len 0 rows i 0 low_i in
      let at_k = get_or-range_with_len 0 rows k 0 low_k in
      omega arith;
}

-- where no injection costs less than this one, its cost is the least
pub least_cost-reached : (width : ℕ) (table : List (List ℕ)) (columns : List ℕ) → IsInjection width (length table) columns
    → ((other : List ℕ) → IsInjection width (length table) other → assignment_cost table columns ≤ assignment_cost table other) → assignment_cost table columns ≡ least_cost width table
least_cost-reached width table columns h least =
    let some = least_cost-is width table columns h in
    let low = least_cost-le width table columns h in
    let high = least some.0 some.1 in
    let is = some.2 in
    omega arith
