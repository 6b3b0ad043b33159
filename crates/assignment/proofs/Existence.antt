-- The method as a proof: each table has an injection and potentials that bound its costs and whose sum is what the injection costs.
use Rattle.std.proofs.Common.{◌≡◌, ℕ, zero, suc, ◌+◌, ◌-◌, ◌<◌, ◌≤◌, ◌&&◌, cond, List, [], ◌∷◌, ◌++◌, length, map, slice_index, slice_set, pos, neg_ℤ, refl, ap, ◌∙◌, subst, inl, inr, arith, get_or-set_same, get_or-set_other, length-set, replicate}
use Rattle.std.specs.Prelude.{ℤ, nat_le, nat_lt}
use Rattle.std.specs.List.{range_with_len, swap}
use Rattle.std.proofs.Math.ListN.{get_or-map}
use Rattle.std.proofs.lemmas.Bool.{cases_eq, cases_lt}
use Rattle.std.proofs.lemmas.Bool.Decides.{nat_tests}
use Rattle.std.proofs.lemmas.List.{get_or_past, length-map, length-replicate}
use Rattle.std.proofs.lemmas.List.Edits.{length-swap}
use Rattle.std.proofs.lemmas.List.FromFn.{get_or-map-range_with_len, get_or-range_with_len, length-map-range_with_len, length-range_with_len}
use Rattle.assignment.specs.Pairings.{ArePlaces, IsColumnSwap, IsHanding, IsMatched, IsOutside, IsPlaceSwap, IsRaised, IsTree, Meets, slack_of}
use Rattle.assignment.specs.declared.nearest.Link.{Link}
use Rattle.assignment.specs.declared.pairing.Pairing.{Pairing}
use Rattle.assignment.proofs.Beginning.{IsMatched-new}
use Rattle.assignment.proofs.Growth.{IsTreeRaised, IsTree-grown, IsTree-raised, IsTree-rooted, Meets-raised}
use Rattle.assignment.proofs.Handing.{IsHanding-begun, IsHanding-step, IsMatched-handed}
use Rattle.assignment.proofs.LeastSlack.{IsBestOfRow, IsBestOfRow-better, IsBestOfRow-kept, IsBestOfRows, IsBestOfRows-more}
use Rattle.assignment.proofs.ReadOff.{ArePlaces-more}
use Rattle.assignment.proofs.Solved.{IsSolved, IsSolved-read}
use Rattle.assignment.proofs.Swaps.{IsSwapped-swap}

raised : ℕ → ℕ → ℕ → List ℕ → List ℕ
raised from to by xs = map (λ i. cond (nat_le from i && nat_lt i to) (slice_index xs i + by) (slice_index xs i)) (range_with_len 0 (length xs))

raised_at : (from to by : ℕ) (xs : List ℕ) (m : ℕ) → to ≤ length xs → slice_index (raised from to by xs) m ≡ cond (nat_le from m && nat_lt m to) (slice_index xs m + by) (slice_index xs m)
unfolding raised
raised_at from to by xs m within = elim (cases_lt m (length xs)) [
  | inl lt ↦ get_or-map-range_with_len (λ i. cond (nat_le from i && nat_lt i to) (slice_index xs i + by) (slice_index xs i)) 0 (length xs) m m 0 lt (omega arith)
  | inr ge ↦
      let old : slice_index xs m ≡ 0 = get_or_past xs m 0 ge in
      let new = get_or_past (map (λ i. cond (nat_le from i && nat_lt i to) (slice_index xs i + by) (slice_index xs i)) (range_with_len 0 (length xs))) m 0
      (omega (arith, length-map-range_with_len (λ i. cond (nat_le from i && nat_lt i to) (slice_index xs i + by) (slice_index xs i)) 0 (length xs))) in
      let past : to ≤ m = omega arith in
      new ∙ grind (arith, nat_tests)
]

length-raised : (from to by : ℕ) (xs : List ℕ) → length (raised from to by xs) ≡ length xs
unfolding raised
length-raised from to by xs = length-map-range_with_len (λ i. cond (nat_le from i && nat_lt i to) (slice_index xs i + by) (slice_index xs i)) 0 (length xs)

IsRaised-raised : (from to by : ℕ) (xs : List ℕ) → to ≤ length xs → IsRaised from to by xs (raised from to by xs)
IsRaised-raised from to by xs within = record {
  size = length-raised from to by xs;
  raised = λ m low high. let at = raised_at from to by xs m within in grind (arith, nat_tests);
  below = λ m low. let at = raised_at from to by xs m within in grind (arith, nat_tests);
  above = λ m high. let at = raised_at from to by xs m within in grind (arith, nat_tests);
}

-- each list has one number for each place
record IsSized (width : ℕ) (p : Pairing width) : Type 0 where
  rows : length p.rows ≡ width
  u : length p.u ≡ width
  columns : length p.columns ≡ width
  prices : length p.prices ≡ width

with_columns_swapped : (width a b : ℕ) → Pairing width → Pairing width
with_columns_swapped width a b p = record { rows = p.rows; u = p.u; columns = swap p.columns a b; prices = swap p.prices a b }

IsSized-columns : (width a b : ℕ) (p : Pairing width) → IsSized width p → IsSized width (with_columns_swapped width a b p)
unfolding with_columns_swapped
IsSized-columns width a b p h = record {
  rows = h.rows;
  u = h.u;
  columns = length-swap p.columns a b ∙ h.columns;
  prices = length-swap p.prices a b ∙ h.prices;
}

IsColumnSwap-swapped : (width a b : ℕ) (p : Pairing width) → IsSized width p → a < width → b < width → IsColumnSwap a b width p (with_columns_swapped width a b p)
unfolding with_columns_swapped
IsColumnSwap-swapped width a b p h la lb = record {
  rows = refl;
  u = refl;
  columns = IsSwapped-swap a b p.columns (omega (arith, h.columns)) (omega (arith, h.columns));
  prices = IsSwapped-swap a b p.prices (omega (arith, h.prices)) (omega (arith, h.prices));
}

with_places_swapped : (width a b : ℕ) → Pairing width → Pairing width
with_places_swapped width a b p = record { rows = swap p.rows a b; u = swap p.u a b; columns = swap p.columns a b; prices = swap p.prices a b }

IsSized-places : (width a b : ℕ) (p : Pairing width) → IsSized width p → IsSized width (with_places_swapped width a b p)
unfolding with_places_swapped
IsSized-places width a b p h = record {
  rows = length-swap p.rows a b ∙ h.rows;
  u = length-swap p.u a b ∙ h.u;
  columns = length-swap p.columns a b ∙ h.columns;
  prices = length-swap p.prices a b ∙ h.prices;
}

IsPlaceSwap-swapped : (width a b : ℕ) (p : Pairing width) → IsSized width p → a < width → b < width → IsPlaceSwap a b width p (with_places_swapped width a b p)
unfolding with_places_swapped
IsPlaceSwap-swapped width a b p h la lb = record {
  rows = IsSwapped-swap a b p.rows (omega (arith, h.rows)) (omega (arith, h.rows));
  u = IsSwapped-swap a b p.u (omega (arith, h.u)) (omega (arith, h.u));
  columns = IsSwapped-swap a b p.columns (omega (arith, h.columns)) (omega (arith, h.columns));
  prices = IsSwapped-swap a b p.prices (omega (arith, h.prices)) (omega (arith, h.prices));
}

with_tree_raised : (width k by : ℕ) → Pairing width → Pairing width
with_tree_raised width k by p = record { rows = p.rows; u = raised 0 k by p.u; columns = p.columns; prices = raised 1 k by p.prices }

IsSized-raised : (width k by : ℕ) (p : Pairing width) → IsSized width p → IsSized width (with_tree_raised width k by p)
unfolding with_tree_raised
IsSized-raised width k by p h = record {
  rows = h.rows;
  u = length-raised 0 k by p.u ∙ h.u;
  columns = h.columns;
  prices = length-raised 1 k by p.prices ∙ h.prices;
}

IsTreeRaised-raised : (width k by : ℕ) (p : Pairing width) → IsSized width p → k ≤ width → IsTreeRaised k by width p (with_tree_raised width k by p)
unfolding with_tree_raised
IsTreeRaised-raised width k by p h le = record {
  rows = refl;
  columns = refl;
  u = IsRaised-raised 0 k by p.u (omega (arith, h.u));
  prices = IsRaised-raised 1 k by p.prices (omega (arith, h.prices));
}

module _ (table : List (List ℕ)) (width : ℕ) (p : Pairing width) (k : ℕ) where
  best_of_row : (d n m : ℕ) → n ≡ k + d → n ≤ width → m < k → (best : Link) × IsBestOfRow table width p k m n best
  best_of_row zero n m e high within = (
    record { from = m; to = 0; slack = slack_of table width p m 0 },
    record {
      from = refl;
      link = record { within = within; to = omega arith; outside = λ none. omega arith; slack = refl };
      least = λ i lt out. elim (cases_eq i 0) [
        | inl is ↦ let same : slack_of table width p m i ≡ slack_of table width p m 0 = ap (λ (i : ℕ). slack_of table width p m i) is in omega arith
        | inr other ↦ let past : k ≤ i = out (omega arith) in absurd (omega arith)
      ];
    },
  )
  best_of_row (suc d) n m e high within =
      let before = best_of_row d (k + d) m refl (omega arith) within in
      let next : (k + d) + 1 ≡ n = omega arith in
      elim (cases_lt (slack_of table width p m (k + d)) before.0.slack) [
        | inl less ↦ (
          record { from = m; to = k + d; slack = slack_of table width p m (k + d) },
          subst (λ (n : ℕ). IsBestOfRow table width p k m n (record { from = m; to = k + d; slack = slack_of table width p m (k + d) })) next
              (IsBestOfRow-better table width p k m (k + d) (slack_of table width p m (k + d)) before.0 _ before.1 within (omega arith) (omega arith) refl less refl),
        )
        | inr more ↦
            (before.0, subst (λ (n : ℕ). IsBestOfRow table width p k m n before.0) next (IsBestOfRow-kept table width p k m (k + d) (slack_of table width p m (k + d)) before.0 before.0 before.1 refl more refl))
      ]

  best_of_any_row : (m : ℕ) → m < k → k ≤ width → (best : Link) × IsBestOfRow table width p k m width best
  best_of_any_row m within high = best_of_row (width - k) width m (omega arith) (omega arith) within

  best_of_rows : (d : ℕ) → d < k → k ≤ width → (best : Link) × IsBestOfRows table width p k (d + 1) best
  best_of_rows zero low high =
      let row = best_of_any_row 0 low high in (
        row.0,
        record {
          link = row.1.link;
          least = λ m e lm le out.
              let is : m ≡ 0 = omega arith in
              let same : slack_of table width p m e ≡ slack_of table width p 0 e = ap (λ (m : ℕ). slack_of table width p m e) is in
              let least = row.1.least e le out in
              omega arith;
        },
      )
  best_of_rows (suc d) low high =
      let before = best_of_rows d (omega arith) high in
      let row = best_of_any_row (d + 1) (omega arith) high in
      let next : (d + 1) + 1 ≡ suc d + 1 = omega arith in
      elim (cases_lt row.0.slack before.0.slack) [
        | inl less ↦ (
          row.0,
          subst (λ (n : ℕ). IsBestOfRows table width p k n row.0) next
              (IsBestOfRows-more table width p k (d + 1) before.0 row.0 row.0 before.1 row.1.link row.1.least (omega arith) (omega arith) row.1.link),
        )
        | inr more ↦ (
          before.0,
          subst (λ (n : ℕ). IsBestOfRows table width p k n before.0) next
              (IsBestOfRows-more table width p k (d + 1) before.0 row.0 before.0 before.1 row.1.link row.1.least (omega arith) (omega arith) before.1.link),
        )
      ]

module _ (table : List (List ℕ)) (width n : ℕ) where
  -- the rows up to this one can be matched
  abbrev Matches : ℕ → Type 0
  Matches count = (q : Pairing width) × IsSized width q × IsMatched table width q count

  handed : (fuel m e : ℕ) (parents : List ℕ) (p : Pairing width) → m ≤ fuel → IsSized width p → IsHanding table width p n m e parents → Matches (n + 1)
  handed zero m e parents p le sized h =
      let low : m < width = omega (arith, h.inner, h.room) in (
        with_columns_swapped width m e p,
        IsSized-columns width m e p sized,
        IsMatched-handed table width n parents m e p (with_columns_swapped width m e p) h (IsColumnSwap-swapped width m e p sized low h.free) (omega arith),
      )
  handed (suc fuel) m e parents p le sized h =
      let low : m < width = omega (arith, h.inner, h.room) in
      elim (cases_eq m 0) [
        | inl root ↦ (
          with_columns_swapped width m e p,
          IsSized-columns width m e p sized,
          IsMatched-handed table width n parents m e p (with_columns_swapped width m e p) h (IsColumnSwap-swapped width m e p sized low h.free) root,
        )
        | inr other ↦
            let up : slice_index parents m < m = h.earlier m (omega arith) (omega arith) in
            handed fuel (slice_index parents m) e parents (with_columns_swapped width m e p) (omega arith) (IsSized-columns width m e p sized)
            (IsHanding-step table width n parents m e p (with_columns_swapped width m e p) h (IsColumnSwap-swapped width m e p sized low h.free) (omega arith))
      ]

  -- one more column is met, and it is free, or the tree grows
  wider : (k : ℕ) (parents : List ℕ) (p : Pairing width) → IsSized width p → IsTree table width p n k parents
      → (q : Pairing width) × (m : ℕ) × (e : ℕ) × IsSized width q × IsTree table width q n k parents × (m < k) × (e < width) × IsOutside k e × Meets table width q m e
  wider k parents p sized h =
      let some = h.root in
      let high : k ≤ width = omega (arith, h.size, h.room) in
      let best = best_of_rows table width p k (k - 1) (omega arith) high in
      let all : (k - 1) + 1 ≡ k = omega arith in
      let link = best.1.link in
      let least : (m e : ℕ) → m < k → e < width → IsOutside k e → best.0.slack ≤ slack_of table width p m e = λ m e lm le out. best.1.least m e (omega arith) le out in
      let q = with_tree_raised width k best.0.slack p in
      let is = IsTreeRaised-raised width k best.0.slack p sized high in (
        q,
        best.0.from,
        best.0.to,
        IsSized-raised width k best.0.slack p sized,
        IsTree-raised table width n k best.0.slack parents p h least q is,
        link.within,
        link.to,
        link.outside,
        Meets-raised table width n k best.0.slack parents p h least q is best.0.from best.0.to link,
      )

  grown : (fuel k : ℕ) (parents : List ℕ) (p : Pairing width) → n + 1 ≡ k + fuel → IsSized width p → length parents ≡ width → IsTree table width p n k parents → Matches (n + 1)
  grown zero k parents p e sized size h =
      let w = wider k parents p sized h in
      handed w.1 w.1 w.2 parents w.0 (omega arith) w.3
      (IsHanding-begun table width n parents k w.1 w.2 w.0 w.4 w.5 w.6 (λ some. let past : k ≤ w.2 = w.7 some in omega arith) w.8)
  grown (suc fuel) k parents p e sized size h =
      let w = wider k parents p sized h in
      elim (cases_eq w.2 0) [
        | inl root ↦
            handed w.1 w.1 w.2 parents w.0 (omega arith) w.3
            (IsHanding-begun table width n parents k w.1 w.2 w.0 w.4 w.5 w.6 (λ some. absurd (omega arith)) w.8)
        | inr other ↦ elim (cases_lt n w.2) [
          | inl free ↦
              handed w.1 w.1 w.2 parents w.0 (omega arith) w.3
              (IsHanding-begun table width n parents k w.1 w.2 w.0 w.4 w.5 w.6 (λ _. free) w.8)
          | inr taken ↦
              let past : k ≤ w.2 = w.7 (omega arith) in
              let low : k < width = omega (arith, h.size, h.room) in
              let q = with_places_swapped width k w.2 w.0 in
              grown fuel (k + 1) (slice_set parents k w.1) q (omega arith) (IsSized-places width k w.2 w.0 w.3) (length-set parents k w.1 ∙ size)
              (IsTree-grown table width n w.0 q k w.1 w.2 parents (slice_set parents k w.1) w.4 w.5 past taken w.8
              (get_or-set_same parents k w.1 0 (omega arith))
              (λ i lt. get_or-set_other parents k i w.1 0 (λ is. omega arith))
              (IsPlaceSwap-swapped width k w.2 w.0 w.3 low w.6))
        ]
      ]

-- as many rows as there are can be matched
matched : (table : List (List ℕ)) (width n : ℕ) → n ≤ width → (q : Pairing width) × IsSized width q × IsMatched table width q n
matched table width zero le = (
  record { rows = range_with_len 0 width; u = replicate width 0; columns = range_with_len 0 width; prices = replicate width 0 },
  record { rows = length-range_with_len 0 width; u = length-replicate width 0; columns = length-range_with_len 0 width; prices = length-replicate width 0 },
  IsMatched-new table width (range_with_len 0 width) (range_with_len 0 width)
      (λ m lt. get_or-range_with_len 0 width m 0 lt ∙ omega arith) (λ m lt. get_or-range_with_len 0 width m 0 lt ∙ omega arith),
)
matched table width (suc n) le =
    let before = matched table width n (omega arith) in
    let low : n < width = omega arith in
    let p = before.0 in
    let q = with_places_swapped width 0 n p in
    let tree = IsTree-rooted table width n p q (replicate width 0) low before.2 (IsPlaceSwap-swapped width 0 n p before.1 (omega arith) low) in
    let all = grown table width n n 1 (replicate width 0) q (omega arith) (IsSized-places width 0 n p before.1) (length-replicate width 0) tree in
    let next : n + 1 ≡ suc n = omega arith in
    (all.0, all.1, subst (λ (n : ℕ). IsMatched table width all.0 n) next all.2)

found : (width count : ℕ) (keys : List ℕ) → count ≤ width → ((i : ℕ) → i < width → (m : ℕ) × (m < width) × (slice_index keys m ≡ i)) → (places : List ℕ) × ArePlaces width count keys places
found width zero keys le reached = ([], record { size = refl; within = λ i d lt. absurd (omega arith); at = λ i lt. absurd (omega arith) })
found width (suc count) keys le reached =
    let before = found width count keys (omega arith) reached in
    let place = reached count (omega arith) in
    let next : count + 1 ≡ suc count = omega arith in (
      before.0 ++ place.0 ∷ [],
      subst (λ (n : ℕ). ArePlaces width n keys (before.0 ++ place.0 ∷ [])) next (ArePlaces-more width count place.0 keys before.0 _ before.1 place.1 place.2 refl),
    )

-- each table has an injection and potentials that reach its cost
pub solved : (table : List (List ℕ)) (width : ℕ) → length table ≤ width → (columns : List ℕ) × (u : List ℤ) × (v : List ℤ) × IsSolved width table columns u v
solved table width few =
    let all = matched table width (length table) few in
    let p = all.0 in
    let sound = all.2.sound in
    let of_rows = found width (length table) p.rows few sound.rows_reached in
    let of_columns = found width width p.columns (omega arith) sound.columns_reached in
    let us : List ℕ = map (slice_index p.u) of_rows.0 in
    let ws : List ℕ = map (slice_index p.prices) of_columns.0 in
    let v : List ℤ = map (λ w. neg_ℤ (pos w)) ws in (
      map (slice_index p.columns) of_rows.0,
      map pos us,
      v,
      IsSolved-read table width p few all.2 of_rows.0 of_columns.0 v of_rows.1 of_columns.1
          (length-map ws (λ w. neg_ℤ (pos w)) ∙ length-map of_columns.0 (slice_index p.prices) ∙ of_columns.1.size)
          (λ j lt. get_or-map (λ w. neg_ℤ (pos w)) ws j 0),
    )
