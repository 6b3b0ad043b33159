-- Tables of costs, from rows whose costs a limit allows.
use Rattle.std.proofs.Common.{◌≡◌, ℕ, zero, suc, ◌-◌, ◌<◌, ◌≤◌, List, [], ◌∷◌, ◌++◌, length, slice_index, slice_index_or, refl, sym, ap, subst, inl, inr, arith, length-append}
use Rattle.std.specs.List.{All}
use Rattle.std.proofs.lemmas.Bool.{cases_lt}
use Rattle.std.proofs.lemmas.List.{get_or-append_right, get_or_append_left, get_or_past}
use Rattle.assignment.specs.Tables.{IsTable, cost_at}

-- a cost of such a row, and 0 past its end
row_small : (limit : ℕ) (row : List ℕ) (j : ℕ) → All (λ cost. cost ≤ limit) row → slice_index row j ≤ limit
row_small limit row j small = elim (cases_lt j (length row)) [
  | inl low ↦ small j 0 low
  | inr past ↦ let none = get_or_past row j 0 past in omega arith
]

pub IsTable-rows : (table : List (List ℕ)) (width limit : ℕ) → length table ≤ width → width ≤ 64 → All (λ row. All (λ cost. cost ≤ limit) row) table → IsTable table width limit
IsTable-rows table width limit rows few small = record {
  rows = rows;
  few = few;
  costs = λ i j. elim (cases_lt i (length table)) [
    | inl low ↦ row_small limit (slice_index_or table i []) j (small i [] low)
    | inr past ↦
        let none = ap (λ (r : List ℕ). slice_index r j) (get_or_past table i [] past) in
        let nothing = get_or_past {X = ℕ} [] j 0 (omega arith) in
        omega arith
  ];
}

-- a table for whose costs a limit is enough is one for a higher limit
pub IsTable-higher : (table : List (List ℕ)) (width limit higher : ℕ) → limit ≤ higher → IsTable table width limit → IsTable table width higher
IsTable-higher table width limit higher le h = record {
  rows = h.rows;
  few = h.few;
  costs = λ i j. let low = h.costs i j in omega arith;
}

-- a cost of a table of that row alone, and 0 outside it
last_small : (limit : ℕ) (row : List ℕ) (i j : ℕ) → All (λ cost. cost ≤ limit) row → cost_at (row ∷ []) i j ≤ limit
last_small limit row zero j small = row_small limit row j small
last_small limit row (suc i) j small =
    let none = ap (λ (r : List ℕ). slice_index r j) (get_or_past (row ∷ []) (suc i) [] (omega arith)) in
    let nothing = get_or_past {X = ℕ} [] j 0 (omega arith) in
    omega arith

-- one more row, for which there is room, of costs that the limit allows
pub IsTable-more : (table new : List (List ℕ)) (row : List ℕ) (width limit : ℕ) → IsTable table width limit → length table < width → All (λ cost. cost ≤ limit) row → new ≡ table ++ row ∷ [] → IsTable new width limit
IsTable-more table new row width limit h room small e =
    let more : IsTable (table ++ row ∷ []) width limit = record {
      rows = omega (arith, length-append table (row ∷ []));
      few = h.few;
      costs = λ i j. elim (cases_lt i (length table)) [
        | inl low ↦ let same = ap (λ (r : List ℕ). slice_index r j) (get_or_append_left table (row ∷ []) [] i low) in omega (arith, h.costs i j)
        | inr past ↦
            let same = ap (λ (r : List ℕ). slice_index r j) (get_or-append_right table (row ∷ []) (length table) i [] refl past) in
            omega (arith, last_small limit row (i - length table) j small)
      ];
    } in
    subst (λ (t : List (List ℕ)). IsTable t width limit) (sym e) more
