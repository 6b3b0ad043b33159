-- What the rows cost at least if one row or one column is changed.
use Rattle.std.proofs.Common.{◌≡◌, ◌≢◌, ℕ, zero, suc, ◌+◌, ◌<◌, ◌≤◌, ◌⊎◌, inl, inr, List, [], ◌∷◌, length, min, slice_index, refl, ap, sym, ◌∙◌, subst, arith}
use Rattle.std.proofs.lemmas.Bool.{cases_eq, cases_lt}
use Rattle.std.proofs.lemmas.List.Elements.{All-get_or}
use Rattle.std.proofs.lemmas.List.FromFn.{length-range_with_len}
use Rattle.std.specs.List.{range_with_len}
use Rattle.general_lemmas.proofs.Differing.{Differ, Has, has-range}
use Rattle.general_lemmas.proofs.SumsAmong.{sum-among, sum-ones}
use Rattle.assignment.specs.Tables.{cost_at}
use Rattle.assignment.specs.Assignments.{IsInjection, assignment_cost, least_cost}
use Rattle.assignment.proofs.Injections.{IsInjection-range, least_cost-is, least_cost-le}
use Rattle.ledger_pairings.specs.Rests.{AreRests, IsColumnChanged, IsRowChanged}
use Rattle.ledger_pairings.proofs.Injected.{columns-among, columns-differ, has-place}

-- the least of some numbers, and one more
pub still-least : (f : ℕ → ℕ) (old new n : ℕ) → n < 16 → ((k : ℕ) → k < n → old ≤ f k) → (k : ℕ) × (k < 16) × (old ≡ f k) → new ≡ min old (f n) → ((k : ℕ) → k < n + 1 → new ≤ f k) × ((k : ℕ) × (k < 16) × (new ≡ f k))
still-least f old new n low before reached is = (
  λ k inside. elim (cases_eq k n) [
    | inl same ↦ let e = ap f same in omega (arith, e, is)
    | inr other ↦ omega (arith, is, before k (omega (arith, inside, other)))
  ],
  elim (cases_lt (f n) old) [
    | inl less ↦ (n, low, omega (arith, is, less))
    | inr more ↦ let e = reached.2 in (reached.0, reached.1, omega (arith, is, more, e))
  ],
)

-- tables that cost the same with these columns
alike : (old new : List (List ℕ)) (columns : List ℕ) → length old ≡ length new → length columns ≡ length new → ((r : ℕ) → r < length new → cost_at new r (slice_index columns r) ≡ cost_at old r (slice_index columns r)) → assignment_cost new columns ≡ assignment_cost old columns
alike [] [] [] rows size same = refl
alike [] [] (c ∷ columns) rows size same = absurd (omega arith)
alike [] (row ∷ new) columns rows size same = absurd (omega arith)
alike (row ∷ old) [] columns rows size same = absurd (omega arith)
alike (row ∷ old) (other ∷ new) [] rows size same = absurd (omega arith)
alike (row ∷ old) (other ∷ new) (c ∷ columns) rows size same =
    let here : slice_index other c ≡ slice_index row c = same 0 (omega arith) in
    let rest = alike old new columns (omega arith) (omega arith) (λ r low. same (suc r) (omega arith)) in
    omega (arith, here, rest)

-- tables that do so but for one row
but-one : (old new : List (List ℕ)) (columns : List ℕ) (i : ℕ) → length old ≡ length new → length columns ≡ length new → i < length new → ((r : ℕ) → r < length new → r ≢ i → cost_at new r (slice_index columns r) ≡ cost_at old r (slice_index columns r))
    → assignment_cost new columns + cost_at old i (slice_index columns i) ≡ assignment_cost old columns + cost_at new i (slice_index columns i)
but-one [] [] columns i rows size low same = absurd (omega arith)
but-one [] (row ∷ new) columns i rows size low same = absurd (omega arith)
but-one (row ∷ old) [] columns i rows size low same = absurd (omega arith)
but-one (row ∷ old) (other ∷ new) [] i rows size low same = absurd (omega arith)
but-one (row ∷ old) (other ∷ new) (c ∷ columns) zero rows size low same =
    let rest = alike old new columns (omega arith) (omega arith) (λ r inside. same (suc r) (omega arith) (λ is. absurd (omega arith))) in
    omega (arith, rest)
but-one (row ∷ old) (other ∷ new) (c ∷ columns) (suc i) rows size low same =
    let here : slice_index other c ≡ slice_index row c = same 0 (omega arith) (λ is. absurd (omega arith)) in
    let rest = but-one old new columns i (omega arith) (omega arith) (omega arith) (λ r inside differs. same (suc r) (omega arith) (λ is. differs (omega arith))) in
    omega (arith, here, rest)

-- whether a list has a number
in-or-not : (xs : List ℕ) (z : ℕ) → Has xs z ⊎ (Has xs z → ⊥)
in-or-not [] z = inr (λ h. elim h [ ])
in-or-not (x ∷ xs) z = elim (cases_eq x z) [
  | inl same ↦ inl (inl same)
  | inr other ↦ elim (in-or-not xs z) [
    | inl there ↦ inl (inr there)
    | inr none ↦ inr (λ h. elim h [ inl same ↦ other same | inr there ↦ none there ])
  ]
]

-- each column has a row, where there are as many
pub owner : (columns : List ℕ) (j : ℕ) → IsInjection 16 16 columns → j < 16 → (r : ℕ) × (r < 16) × (slice_index columns r ≡ j)
owner columns j h low = elim (in-or-not columns j) [
  | inl there ↦ let x = has-place columns j there in let inside : x.0 < length columns = x.1 in (x.0, omega (arith, inside, h.size), x.2)
  | inr none ↦
      let differ : Differ (j ∷ columns) = (none, columns-differ columns h) in
      let among = sum-among (λ _. 1) (j ∷ columns) (range_with_len 0 16) differ (λ z is. elim is [
        | inl same ↦ has-range 0 16 z (omega arith) (omega (arith, same, low))
        | inr there ↦ columns-among columns h z there
      ]) in
      let many = sum-ones (λ _. 1) (j ∷ columns) (λ z is. refl) in
      let few = sum-ones (λ _. 1) (range_with_len 0 16) (λ z is. refl) in
      absurd (omega (arith, among, many, few, length-range_with_len 0 16, h.size))
]

module _ (old rests new : List (List ℕ)) (old_size : length old ≡ 16) (known : AreRests old rests) (size : length new ≡ 16) where
  -- what the best assignment costs
  best : (columns : List ℕ) × IsInjection 16 16 columns × (assignment_cost new columns ≡ least_cost 16 new)
  best =
      let x = least_cost-is 16 new (range_with_len 0 16) (subst (λ (n : ℕ). IsInjection 16 n (range_with_len 0 16)) (sym size) (IsInjection-range 16 16 (omega arith))) in
      (x.0, subst (λ (n : ℕ). IsInjection 16 n x.0) size x.1, x.2)

  -- with this row's column, where the tables cost the same in other rows with those columns
  module _ (i : ℕ) (low : i < 16) where
    moved : (columns : List ℕ) (c : ℕ) → IsInjection 16 16 columns → slice_index columns i ≡ c → ((r : ℕ) → r < 16 → r ≢ i → cost_at new r (slice_index columns r) ≡ cost_at old r (slice_index columns r)) → assignment_cost new columns + cost_at old i c ≡ assignment_cost old columns + cost_at new i c
    moved columns c h there same =
        let e = but-one old new columns i (omega (arith, old_size, size)) (omega (arith, h.size, size)) (omega (arith, low, size)) (λ r inside differs. same r (omega (arith, inside, size)) differs) in
        let a = ap (cost_at old i) there in
        let b = ap (cost_at new i) there in
        omega (arith, e, a, b)

    pub below : (c : ℕ) → (inside : c < 16) → ((columns : List ℕ) → IsInjection 16 16 columns → slice_index columns i ≡ c → (r : ℕ) → r < 16 → r ≢ i → cost_at new r (slice_index columns r) ≡ cost_at old r (slice_index columns r)) → least_cost 16 new ≤ cost_at rests i c + cost_at new i c
    below c inside same =
        let rest = known i c low inside in
        let e = moved rest.columns c rest.injection rest.has (same rest.columns rest.injection rest.has) in
        let least = least_cost-le 16 new rest.columns (subst (λ (n : ℕ). IsInjection 16 n rest.columns) (sym size) rest.injection) in
        omega (arith, e, least, rest.reached)

    above : (columns : List ℕ) (c : ℕ) → c < 16 → IsInjection 16 16 columns → slice_index columns i ≡ c → ((r : ℕ) → r < 16 → r ≢ i → cost_at new r (slice_index columns r) ≡ cost_at old r (slice_index columns r)) → cost_at rests i c + cost_at new i c ≤ assignment_cost new columns
    above columns c inside h there same =
        let rest = known i c low inside in
        let e = moved columns c h there same in
        let most = rest.below columns h there in
        omega (arith, e, most)

  -- one row is changed
  pub row-least : (i : ℕ) (row : List ℕ) (least k : ℕ) → i < 16 → IsRowChanged i row old new → ((c : ℕ) → c < 16 → least ≤ cost_at rests i c + slice_index row c) → k < 16 → least ≡ cost_at rests i k + slice_index row k → least ≡ least_cost 16 new
  row-least i row least k low is bound inside reached =
      let same : (columns : List ℕ) → IsInjection 16 16 columns → (r : ℕ) → r < 16 → r ≢ i → cost_at new r (slice_index columns r) ≡ cost_at old r (slice_index columns r) =
      λ columns h r in_rows differs. is.others r (slice_index columns r) in_rows (All-get_or (λ j. j < 16) columns r 0 (omega (arith, in_rows, h.size)) h.within) differs in
      let most = below i low k inside (λ columns h there. same columns h) in
      let c : ℕ = slice_index best.0 i in
      let in_columns : c < 16 = All-get_or (λ j. j < 16) best.0 i 0 (omega (arith, low, best.1.size)) best.1.within in
      let least_is = above i low best.0 c in_columns best.1 refl (same best.0 best.1) in
      omega (arith, most, is.here k inside, reached, least_is, is.here c in_columns, bound c in_columns, best.2)

  -- one column is changed
  pub column-least : (j : ℕ) (column : List ℕ) (least k : ℕ) → j < 16 → IsColumnChanged j column old new → ((r : ℕ) → r < 16 → least ≤ cost_at rests r j + slice_index column r) → k < 16 → least ≡ cost_at rests k j + slice_index column k → least ≡ least_cost 16 new
  column-least j column least k low is bound inside reached =
      let same : (i : ℕ) → i < 16 → (columns : List ℕ) → IsInjection 16 16 columns → slice_index columns i ≡ j → (r : ℕ) → r < 16 → r ≢ i → cost_at new r (slice_index columns r) ≡ cost_at old r (slice_index columns r) =
      λ i in_i columns h there r in_rows differs. is.others r (slice_index columns r) in_rows (All-get_or (λ c. c < 16) columns r 0 (omega (arith, in_rows, h.size)) h.within) (λ e. differs (h.apart r i (omega (arith, in_rows, h.size)) (omega (arith, in_i, h.size)) (e ∙ sym there))) in
      let most = below k inside j low (λ columns h there. same k inside columns h there) in
      let x = owner best.0 j best.1 low in
      let in_x : x.0 < 16 = x.1 in
      let least_is = above x.0 in_x best.0 j low best.1 x.2 (same x.0 in_x best.0 best.1 x.2) in
      omega (arith, most, is.here k inside, reached, least_is, is.here x.0 in_x, bound x.0 in_x, best.2)
