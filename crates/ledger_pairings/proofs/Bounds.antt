-- Fair dues and prices bound what each assignment costs.
use Rattle.std.proofs.Common.{◌≡◌, ℕ, zero, suc, ◌+◌, ◌<◌, ◌≤◌, inl, inr, List, [], ◌∷◌, length, slice_index, refl, ap, sym, ◌∙◌, arith}
use Rattle.std.proofs.lemmas.Bool.{cases_eq}
use Rattle.std.proofs.lemmas.List.{get_or-set_other, get_or-set_same, length-set}
use Rattle.std.proofs.lemmas.List.Elements.{All-get_or}
use Rattle.std.proofs.lemmas.List.Sums.{sum_by-cons, sum_by-set}
use Rattle.std.specs.Prelude.{slice_set, sum}
use Rattle.std.specs.List.{range_with_len, sum_by}
use Rattle.general_lemmas.proofs.SumsAmong.{sum-among}
use Rattle.assignment.specs.Tables.{cost_at}
use Rattle.assignment.specs.Assignments.{IsInjection, assignment_cost}
use Rattle.ledger_pairings.specs.Fair.{AreFair}
use Rattle.ledger_pairings.proofs.Injected.{columns-among, columns-differ}

-- row by row
paid : (table : List (List ℕ)) (dues columns prices : List ℕ) → length dues ≡ length table → length columns ≡ length table
    → ((r : ℕ) → r < length table → slice_index dues r ≤ cost_at table r (slice_index columns r) + slice_index prices (slice_index columns r))
    → sum dues ≤ assignment_cost table columns + sum_by (slice_index prices) columns
paid [] [] [] prices many size fair = let none : sum [] ≡ 0 = refl in omega arith
paid [] (d ∷ dues) columns prices many size fair = absurd (omega arith)
paid [] [] (c ∷ columns) prices many size fair = absurd (omega arith)
paid (row ∷ table) [] columns prices many size fair = absurd (omega arith)
paid (row ∷ table) (d ∷ dues) [] prices many size fair = absurd (omega arith)
paid (row ∷ table) (d ∷ dues) (c ∷ columns) prices many size fair =
    let here : d ≤ slice_index row c + slice_index prices c = fair 0 (omega arith) in
    let rest = paid table dues columns prices (omega arith) (omega arith) (λ r low. fair (suc r) (omega arith)) in
    omega (arith, here, rest, sum_by-cons (λ (x : ℕ). x) d dues, sum_by-cons (slice_index prices) c columns)

-- the numbers of a list by their places
by-places : (xs : List ℕ) (n m : ℕ) (prices : List ℕ) → m ≡ length xs → ((k : ℕ) → slice_index prices (n + k) ≡ slice_index xs k) → sum_by (slice_index prices) (range_with_len n m) ≡ sum xs
by-places [] n zero prices size same = refl
by-places [] n (suc m) prices size same = absurd (omega arith)
by-places (x ∷ xs) n zero prices size same = absurd (omega arith)
by-places (x ∷ xs) n (suc m) prices size same =
    let place : n ≡ n + 0 = omega arith in
    let first : slice_index prices n ≡ x = ap (slice_index prices) place ∙ same 0 in
    let rest = by-places xs (n + 1) m prices (omega arith) (λ k. let next : n + 1 + k ≡ n + suc k = omega arith in ap (slice_index prices) next ∙ same (suc k)) in
    omega (arith, first, rest, sum_by-cons (slice_index prices) n (range_with_len (n + 1) m), sum_by-cons (λ (y : ℕ). y) x xs)

pub prices-most : (prices columns : List ℕ) → length prices ≡ 16 → IsInjection 16 16 columns → sum_by (slice_index prices) columns ≤ sum prices
prices-most prices columns size h =
    let among = sum-among (slice_index prices) columns (range_with_len 0 16) (columns-differ columns h) (columns-among columns h) in
    let whole = by-places prices 0 16 prices (sym size) (λ k. let place : 0 + k ≡ k = omega arith in ap (slice_index prices) place) in
    omega (arith, among, whole)

-- where one row's column is given
pub bounded : (table : List (List ℕ)) (dues prices : List ℕ) (i j cell : ℕ) → length table ≡ 16 → length dues ≡ 16 → length prices ≡ 16 → i < 16 → AreFair table dues prices → slice_index dues i ≡ 0 → cell ≡ cost_at table i j
    → (columns : List ℕ) → IsInjection 16 16 columns → slice_index columns i ≡ j → sum dues + cell + slice_index prices j ≤ assignment_cost table columns + sum prices
bounded table dues prices i j cell rows many size low fair nothing is columns h there =
    let more : List ℕ = slice_set dues i (cell + slice_index prices j) in
    let all : length more ≡ 16 = length-set dues i (cell + slice_index prices j) ∙ many in
    let columns_size = h.size in
    let each = paid table more columns prices (omega arith) (omega arith) (λ r inside. elim (cases_eq r i) [
      | inl same ↦
          let e : slice_index more r ≡ cell + slice_index prices j = ap (slice_index more) same ∙ get_or-set_same dues i (cell + slice_index prices j) 0 (omega (arith, low, many)) in
          let column : slice_index columns r ≡ j = ap (slice_index columns) same ∙ there in
          let cost : cost_at table r (slice_index columns r) ≡ cell = ap (cost_at table r) column ∙ ap (λ (t : ℕ). cost_at table t j) same ∙ sym is in
          let price : slice_index prices (slice_index columns r) ≡ slice_index prices j = ap (slice_index prices) column in
          omega (arith, e, cost, price)
      | inr other ↦
          let e : slice_index more r ≡ slice_index dues r = get_or-set_other dues i r (cell + slice_index prices j) 0 other in
          let inside_row : r < 16 = omega (arith, inside, rows) in
          let column : slice_index columns r < 16 = All-get_or (λ c. c < 16) columns r 0 (omega (arith, inside_row, columns_size)) h.within in
          omega (arith, e, fair r (slice_index columns r) inside_row column)
    ]) in
    let changed : sum more + slice_index dues i ≡ sum dues + (cell + slice_index prices j) = sum_by-set (λ (x : ℕ). x) dues i (cell + slice_index prices j) 0 (omega (arith, low, many)) in
    omega (arith, each, changed, nothing, prices-most prices columns size h)
