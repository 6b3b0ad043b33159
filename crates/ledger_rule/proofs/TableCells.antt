-- The cells of what a side's men cost.
use Rattle.std.proofs.Common.{◌≡◌, ℕ, ◌-◌, ◌<◌, ◌≤◌, inl, inr, Bool, List, [], length, map, slice_index, slice_index_or, refl, ap, sym, ◌∙◌, arith, length-append}
use Rattle.std.specs.Prelude.{replicate}
use Rattle.std.proofs.lemmas.Bool.{cases_lt}
use Rattle.std.proofs.lemmas.List.{get_or-append_right, get_or_append_left, get_or-map, length-map, get_or-replicate, length-replicate}
use Rattle.std.proofs.lemmas.List.FromFn.{get_or-map-range_with_len}
use Rattle.general_lemmas.proofs.Differing.{differ-apart}
use Rattle.board_base.specs.Board.{Places, at, home_of, men_squares}
use Rattle.board_base.specs.declared.men.Colour.{Colour}
use Rattle.board_base.specs.declared.men.Colour.TheVariants.{White, Black}
use Rattle.assignment.specs.Tables.{cost_at}
use Rattle.capture_prices.specs.Prices.{PriceList}
use Rattle.balance_rule.specs.Balance.{men_on}
use Rattle.balance_rule.specs.Costs.{gone, stands}
use Rattle.balance_rule.proofs.TrueHomes.{squares-differ}
use Rattle.ledger_facts.specs.Accounts.{cost_table_if, gone_if, gone_row_if, stand_row_if, stands_if}
use Rattle.ledger_facts.specs.declared.suppositions.Supposition.{Supposition}
use Rattle.ledger_rule.specs.Kept.{nothing}

-- no two men stand on one square
pub men-apart : (c : Colour) (board : Places) (i k : ℕ) → i < men_on c board → k < men_on c board → slice_index (men_squares c board) i ≡ slice_index (men_squares c board) k → i ≡ k
men-apart c board i k low high same = differ-apart (men_squares c board) (squares-differ c board) i k 0 low high same

-- homes differ
pub homes-apart : (c : Colour) (j k : ℕ) → home_of c j ≡ home_of c k → j ≡ k
homes-apart White j k same = same
homes-apart Black j k same = omega arith

module _ (x : Supposition) (p : PriceList) (set : List Bool) (c : Colour) (first board : Places) where
  -- the table has a row for each man who began
  pub length-table : men_on c board ≤ men_on c first → length (cost_table_if x p set c first board) ≡ men_on c first
  unfolding cost_table_if
  length-table few =
      let standing : length (map (stand_row_if x p set c first board) (men_squares c board)) ≡ men_on c board = length-map (men_squares c board) (stand_row_if x p set c first board) in
      let lost : length (replicate (men_on c first - men_on c board) (gone_row_if x p set c first)) ≡ men_on c first - men_on c board = length-replicate (men_on c first - men_on c board) (gone_row_if x p set c first) in
      omega (arith, length-append (map (stand_row_if x p set c first board) (men_squares c board)) (replicate (men_on c first - men_on c board) (gone_row_if x p set c first)), standing, lost)

  -- what a man on the board costs from a home
  pub cell-standing : (i j : ℕ) → i < men_on c board → j < 16
      → cost_at (cost_table_if x p set c first board) i j ≡ stands_if x p set c (at first (home_of c j)) (home_of c j) (at board (slice_index (men_squares c board) i)) (slice_index (men_squares c board) i)
  unfolding cost_table_if stand_row_if
  cell-standing i j there home =
      let men : List ℕ = men_squares c board in
      let s : ℕ = slice_index men i in
      let standing : length (map (stand_row_if x p set c first board) men) ≡ length men = length-map men (stand_row_if x p set c first board) in
      let row : slice_index_or (cost_table_if x p set c first board) i [] ≡ stand_row_if x p set c first board s =
      get_or_append_left (map (stand_row_if x p set c first board) men) (replicate (men_on c first - men_on c board) (gone_row_if x p set c first)) [] i (omega arith) ∙ get_or-map (stand_row_if x p set c first board) men i 0 [] there in
      ap (λ (r : List ℕ). slice_index r j) row ∙ get_or-map-range_with_len (λ (j : ℕ). stands_if x p set c (at first (home_of c j)) (home_of c j) (at board s) s) 0 16 j j 0 home (omega arith)

  -- what a man who is gone costs from a home
  pub cell-gone : (i j : ℕ) → men_on c board ≤ i → i < men_on c first → j < 16
      → cost_at (cost_table_if x p set c first board) i j ≡ gone_if x p set c (at first (home_of c j)) (home_of c j)
  unfolding cost_table_if gone_row_if
  cell-gone i j past below home =
      let men : List ℕ = men_squares c board in
      let standing : length (map (stand_row_if x p set c first board) men) ≡ length men = length-map men (stand_row_if x p set c first board) in
      let rest : List (List ℕ) = replicate (men_on c first - men_on c board) (gone_row_if x p set c first) in
      let row : slice_index_or (cost_table_if x p set c first board) i [] ≡ gone_row_if x p set c first =
      get_or-append_right (map (stand_row_if x p set c first board) men) rest (length men) i [] standing past ∙ get_or-replicate (men_on c first - men_on c board) (i - length men) (gone_row_if x p set c first) [] (omega arith) in
      ap (λ (r : List ℕ). slice_index r j) row ∙ get_or-map-range_with_len (λ (j : ℕ). gone_if x p set c (at first (home_of c j)) (home_of c j)) 0 16 j j 0 home (omega arith)

module _ (x : Supposition) (p : PriceList) (set : List Bool) (c : Colour) (first board : Places) where
  -- it has the cells of the table of no supposition where these are the same
  pub cells-same : (r j : ℕ) → j < 16 → r < men_on c first
      → ((s : ℕ) → r < men_on c board → slice_index (men_squares c board) r ≡ s → stands_if x p set c (at first (home_of c j)) (home_of c j) (at board s) s ≡ stands p set c (at first (home_of c j)) (home_of c j) (at board s) s)
      → (men_on c board ≤ r → gone_if x p set c (at first (home_of c j)) (home_of c j) ≡ gone p set c (at first (home_of c j)) (home_of c j))
      → cost_at (cost_table_if x p set c first board) r j ≡ cost_at (cost_table_if nothing p set c first board) r j
  cells-same r j home below here there = elim (cases_lt r (men_on c board)) [
    | inl low ↦ cell-standing x p set c first board r j low home ∙ here (slice_index (men_squares c board) r) low refl ∙ sym (cell-standing nothing p set c first board r j low home)
    | inr past ↦ cell-gone x p set c first board r j past below home ∙ there past ∙ sym (cell-gone nothing p set c first board r j past below home)
  ]
