-- What the places hold in the end: an injection and potentials whose sum is its cost.
use Rattle.std.proofs.Common.{◌≡◌, ℕ, ◌+◌, ◌<◌, ◌≤◌, List, length, map, slice_index, slice_index_or, pos, neg_ℤ, ◌+ℤ◌, ◌≤ℤ◌, sym, refl, ap, ◌∙◌, subst, inl, inr, arith}
use Rattle.std.specs.Prelude.{ℤ}
use Rattle.std.specs.List.{All}
use Rattle.std.proofs.lemmas.Bool.{cases_lt}
use Rattle.std.proofs.lemmas.Int.{ints}
use Rattle.std.proofs.lemmas.List.Elements.{All-from_get_or}
use Rattle.std.proofs.Math.ListN.{get_or-map}
use Rattle.std.proofs.lemmas.List.{length-map}
use Rattle.assignment.specs.Tables.{IsLimit, IsTable, cost_at}
use Rattle.assignment.specs.Pairings.{ArePlaces, IsMatched, cost_between}
use Rattle.assignment.specs.Assignments.{IsBounded, IsInjection, IsWithin, assignment_cost, least_cost, total}
use Rattle.assignment.specs.declared.pairing.Pairing.{Pairing}
use Rattle.assignment.proofs.Duality.{sums-along, total-is_along, weak_duality}
use Rattle.assignment.proofs.Injections.{least_cost-reached}
use Rattle.assignment.proofs.ReadOff.{IsReadOff, IsReadOff-places}

pub IsInjection-solved : (table : List (List ℕ)) (width : ℕ) (p : Pairing width) → IsMatched table width p (length table) → (columns : List ℕ) → IsReadOff width (length table) p.rows p.columns columns
    → IsInjection width (length table) columns
IsInjection-solved table width p h columns by_row = record {
  size = by_row.size;
  within = All-from_get_or (λ j. j < width) columns 0 (λ i lt.
      let at = by_row.at i (omega (arith, by_row.size)) in
      let low = h.sound.columns_below at.0 at.1 in
      let is = at.3 in
      omega arith);
  apart = λ i k li lk same.
      let at_i = by_row.at i (omega (arith, by_row.size)) in
      let at_k = by_row.at k (omega (arith, by_row.size)) in
      let place : at_i.0 ≡ at_k.0 = h.sound.columns_apart at_i.0 at_k.0 at_i.1 at_k.1 (sym at_i.3 ∙ same ∙ at_k.3) in
      sym at_i.2 ∙ ap (slice_index p.rows) place ∙ at_k.2;
}

module _ (table : List (List ℕ)) (width : ℕ) (p : Pairing width) (few : length table ≤ width) (h : IsMatched table width p (length table))
    (columns us ws : List ℕ)
    (by_row : IsReadOff width (length table) p.rows p.columns columns)
    (of_row : IsReadOff width (length table) p.rows p.u us)
    (of_column : IsReadOff width width p.columns p.prices ws) where
  -- a row of the table stands in one of the first places
  inner : (m : ℕ) → m < width → slice_index p.rows m < length table → m < length table
  inner m lm low = elim (cases_lt m (length table)) [
    | inl lt ↦ lt
    | inr ge ↦ let untouched = h.rest.rows m ge lm in omega arith
  ]

  injection : IsInjection width (length table) columns
  injection = IsInjection-solved table width p h columns by_row

  us_small : (limit : ℕ) → IsLimit table limit → All (λ x. x ≤ limit) us
  us_small limit costs = All-from_get_or (λ x. x ≤ limit) us 0 (λ i lt.
      let at = of_row.at i (omega (arith, of_row.size)) in
      let small = h.sound.u_small limit costs at.0 at.1 in
      let is = at.3 in
      omega arith)

  ws_small : (limit : ℕ) → IsLimit table limit → All (λ x. x ≤ limit) ws
  ws_small limit costs = All-from_get_or (λ x. x ≤ limit) ws 0 (λ i lt.
      let at = of_column.at i (omega (arith, of_column.size)) in
      let small = h.sound.prices_small limit costs at.0 at.1 in
      let is = at.3 in
      omega arith)

  fair : (i j : ℕ) → i < length table → j < width → slice_index us i ≤ cost_at table i j + slice_index ws j
  fair i j li lj =
      let at_i = of_row.at i li in
      let at_j = of_column.at j lj in
      let old = h.sound.fair at_i.0 at_j.0 at_i.1 at_j.1 in
      let cost : cost_between table width p at_i.0 at_j.0 ≡ cost_at table i j =
      ap (λ (r : ℕ). cost_at table r (slice_index p.columns at_j.0)) at_i.2 ∙ ap (cost_at table i) at_j.2 in
      let u = at_i.3 in
      let w = at_j.3 in
      omega arith

  met : (i : ℕ) → i < length table → slice_index us i ≡ cost_at table i (slice_index columns i) + slice_index ws (slice_index columns i)
  met i li =
      let at = by_row.at i li in
      let at_u = of_row.at i li in
      let low : at.0 < length table = inner at.0 at.1 (let is = at.2 in omega arith) in
      let old = h.met at.0 low in
      let same : at_u.0 ≡ at.0 = h.sound.rows_apart at_u.0 at.0 at_u.1 at.1 (at_u.2 ∙ sym at.2) in
      let j_low : slice_index columns i < width = let below = h.sound.columns_below at.0 at.1 in let is = at.3 in omega arith in
      let at_w = of_column.at (slice_index columns i) j_low in
      let same_w : at_w.0 ≡ at.0 = h.sound.columns_apart at_w.0 at.0 at_w.1 at.1 (at_w.2 ∙ at.3) in
      let cost : cost_between table width p at.0 at.0 ≡ cost_at table i (slice_index columns i) =
      ap (λ (r : ℕ). cost_at table r (slice_index p.columns at.0)) at.2 ∙ ap (cost_at table i) (sym at.3) in
      let u : slice_index us i ≡ slice_index p.u at.0 = at_u.3 ∙ ap (slice_index p.u) same in
      let w : slice_index ws (slice_index columns i) ≡ slice_index p.prices at.0 = at_w.3 ∙ ap (slice_index p.prices) same_w in
      omega arith

  idle : (j : ℕ) → j < width → ((k : ℕ) → k < length columns → slice_index columns k ≡ j → ⊥) → slice_index ws j ≡ 0
  idle j lj none =
      let at = of_column.at j lj in
      at.3 ∙ elim (cases_lt at.0 (length table)) [
        | inl low ↦
            let row : slice_index p.rows at.0 < length table = h.rows_below at.0 low in
            let there = by_row.at (slice_index p.rows at.0) row in
            let same : there.0 ≡ at.0 = h.sound.rows_apart there.0 at.0 there.1 at.1 there.2 in
            absurd (none (slice_index p.rows at.0) (omega (arith, by_row.size)) (there.3 ∙ ap (slice_index p.columns) same ∙ at.2))
        | inr ge ↦ h.rest.prices at.0 ge at.1
      ]

  module _ (u v : List ℤ) (size_u : length u ≡ length table) (size_v : length v ≡ width)
      (is_u : (i : ℕ) → i < length table → slice_index_or u i (pos 0) ≡ pos (slice_index us i))
      (is_v : (j : ℕ) → j < width → slice_index_or v j (pos 0) ≡ neg_ℤ (pos (slice_index ws j))) where
    pub IsBounded-solved : IsBounded width table u v
    IsBounded-solved = record {
      rows = size_u;
      columns = size_v;
      below = All-from_get_or (λ x. x ≤ℤ pos 0) v (pos 0) (λ j lt. let at = is_v j (omega arith) in omega (arith, ints));
      pairs = λ i j li lj.
          let at_i = is_u i li in
          let at_j = is_v j lj in
          let old = fair i j li lj in
          omega (arith, ints);
    }

    pub u_within : (limit : ℕ) → IsTable table width limit → All (IsWithin limit) u
    u_within limit costs = All-from_get_or (IsWithin limit) u (pos 0) (λ i lt.
        let at = is_u i (omega arith) in
        let small = us_small limit costs.costs i 0 (omega (arith, of_row.size)) in
        (omega (arith, ints), omega (arith, ints)))

    pub v_within : (limit : ℕ) → IsTable table width limit → All (IsWithin limit) v
    v_within limit costs = All-from_get_or (IsWithin limit) v (pos 0) (λ j lt.
        let at = is_v j (omega arith) in
        let small = ws_small limit costs.costs j 0 (omega (arith, of_column.size)) in
        (omega (arith, ints), omega (arith, ints)))

    pub total-solved : (total u +ℤ total v) ≡ pos (assignment_cost table columns)
    total-solved =
        let rows = sums-along (λ a b. a ≡ b) refl (λ a b c d first rest. cc) table u v columns size_u by_row.size (λ i li.
        let at_u = is_u i li in
        let low : slice_index columns i < width = injection.within i 0 (omega (arith, by_row.size)) in
        let at_v = is_v (slice_index columns i) low in
        let old = met i li in
        omega (arith, ints)) in
        let P : ℕ → Type 0 = λ n. All (λ j. j < n) columns in
        let all = total-is_along columns v (subst P (sym size_v) injection.within) injection.apart (λ j lt none.
        let low : j < width = omega arith in
        let at = is_v j low in
        let zero_price = idle j low none in
        omega (arith, ints)) in
        omega (arith, ints)

    pub least-solved : (other : List ℕ) → IsInjection width (length table) other → assignment_cost table columns ≤ assignment_cost table other
    least-solved other injection =
        let bound = weak_duality width table u v other IsBounded-solved injection in
        let sum = total-solved in
        omega (arith, ints)

    pub least_cost-solved : assignment_cost table columns ≡ least_cost width table
    least_cost-solved = least_cost-reached width table columns injection least-solved

-- an injection of least cost, and potentials that bound the cost and whose sum it is
pub record IsSolved (width : ℕ) (table : List (List ℕ)) (columns : List ℕ) (u v : List ℤ) : Type 0 where
  pub injection : IsInjection width (length table) columns
  pub least : assignment_cost table columns ≡ least_cost width table
  pub bounded : IsBounded width table u v
  pub reached : (total u +ℤ total v) ≡ pos (assignment_cost table columns)
  pub u_within : (limit : ℕ) → IsTable table width limit → All (IsWithin limit) u
  pub v_within : (limit : ℕ) → IsTable table width limit → All (IsWithin limit) v

-- what is read off the places of the rows, and off those of the columns
pub IsSolved-read : (table : List (List ℕ)) (width : ℕ) (p : Pairing width) → length table ≤ width → IsMatched table width p (length table) → (of_rows of_columns : List ℕ) (v : List ℤ)
    → ArePlaces width (length table) p.rows of_rows → ArePlaces width width p.columns of_columns
    → length v ≡ width → ((j : ℕ) → j < width → slice_index_or v j (pos 0) ≡ neg_ℤ (pos (slice_index (map (slice_index p.prices) of_columns) j)))
    → IsSolved width table (map (slice_index p.columns) of_rows) (map pos (map (slice_index p.u) of_rows)) v
IsSolved-read table width p few h of_rows of_columns v rows_at columns_at size_v is_v =
    let columns : List ℕ = map (slice_index p.columns) of_rows in
    let us : List ℕ = map (slice_index p.u) of_rows in
    let ws : List ℕ = map (slice_index p.prices) of_columns in
    let u : List ℤ = map pos us in
    let by_row : IsReadOff width (length table) p.rows p.columns columns = IsReadOff-places width (length table) p.rows p.columns of_rows rows_at in
    let of_row : IsReadOff width (length table) p.rows p.u us = IsReadOff-places width (length table) p.rows p.u of_rows rows_at in
    let of_column : IsReadOff width width p.columns p.prices ws = IsReadOff-places width width p.columns p.prices of_columns columns_at in
    let size_u : length u ≡ length table = length-map us pos ∙ of_row.size in
    let at_u : (i : ℕ) → i < length table → slice_index_or u i (pos 0) ≡ pos (slice_index us i) = λ i lt. get_or-map pos us i 0 in
    record {
      injection = IsInjection-solved table width p h columns by_row;
      least = least_cost-solved table width p few h columns us ws by_row of_row of_column u v size_u size_v at_u is_v;
      bounded = IsBounded-solved table width p few h columns us ws by_row of_row of_column u v size_u size_v at_u is_v;
      reached = total-solved table width p few h columns us ws by_row of_row of_column u v size_u size_v at_u is_v;
      u_within = u_within table width p few h columns us ws by_row of_row of_column u v size_u size_v at_u is_v;
      v_within = v_within table width p few h columns us ws by_row of_row of_column u v size_u size_v at_u is_v;
    }
