-- Rows of costs, one for each man.
use Rattle.std.proofs.Common.{◌≡◌, ℕ, ◌+◌, ◌-◌, ◌<◌, ◌≤◌, List, ◌++◌, length, inl, inr, map, slice_index, slice_set, slice_index_or, ap, sym, subst, ◌∙◌, arith, Bool}
use Rattle.std.proofs.lemmas.Bool.{cases_eq}
use Rattle.std.proofs.lemmas.List.{get_or-set_other, get_or-set_same, length-map}
use Rattle.std.proofs.lemmas.List.FromFn.{get_or-map-range_with_len}
use Rattle.std.specs.Prelude.{replicate}
use Rattle.board_base.specs.Board.{Places, array_of, at, home_of, men_squares}
use Rattle.board_base.specs.declared.men.Colour.{Colour}
use Rattle.assignment.specs.Assignments.{least_cost}
use Rattle.capture_prices.specs.Prices.{PriceList}
use Rattle.balance_rule.specs.Balance.{gone_row, men_on}
use Rattle.balance_rule.specs.Costs.{gone, never}
use Rattle.balance_rule.proofs.Filled.{any-default}
use Rattle.ledger_facts.specs.Accounts.{cost_table_if, gone_row_if, side_cost_if, stand_row_if}
use Rattle.ledger_facts.specs.declared.suppositions.Supposition.{Supposition}

-- the cell of a home of the row of those who are gone
pub gone-cell : (p : PriceList) (set : List Bool) (c : Colour) (first : Places) (row : List ℕ) (j : ℕ) → j < 16 → row ≡ gone_row p set c first → slice_index row j ≡ gone p set c (at first (home_of c j)) (home_of c j)
unfolding gone_row
gone-cell p set c first row j low is = ap (λ (l : List ℕ). slice_index l j) is ∙ get_or-map-range_with_len (λ k. gone p set c (at first (home_of c k)) (home_of c k)) 0 16 j j 0 low (omega arith)

-- a row that is filled cell by cell
pub row-more : (P : ℕ → ℕ → Type 0) (row : List ℕ) (j cost : ℕ) → j < length row → ((k : ℕ) → k < j → P k (slice_index row k)) → P j cost → (k : ℕ) → k < j + 1 → P k (slice_index (slice_set row j cost) k)
row-more P row j cost inside before here k low = elim (cases_eq k j) [
  | inl same ↦
      let e : slice_index (slice_set row j cost) k ≡ cost = ap (slice_index (slice_set row j cost)) same ∙ get_or-set_same row j cost 0 inside in
      subst (P k) (sym e) (subst (λ (n : ℕ). P n cost) (sym same) here)
  | inr other ↦ subst (P k) (sym (get_or-set_other row j k cost 0 other)) (before k (omega arith))
]

pub row-small : (row : List ℕ) (j : ℕ) → length row ≡ 16 → 16 ≤ j → ((k : ℕ) → k < j → slice_index row k ≤ never) → (k d : ℕ) → k < length row → slice_index_or row k d ≤ never
row-small row j size past small k d inside = omega (arith, any-default row k d 0 inside, small k (omega arith))

-- the rows of those who stand, and of those who are gone
pub table-made : (x : Supposition) (p : PriceList) (set : List Bool) (c : Colour) (first board : Places) (rows new : List (List ℕ)) (lost : List ℕ) (begun : ℕ) → begun ≡ men_on c first → rows ≡ map (stand_row_if x p set c first board) (men_squares c board) → lost ≡ gone_row_if x p set c first → new ≡ rows ++ replicate (begun - length rows) lost → new ≡ cost_table_if x p set c first board
unfolding cost_table_if
table-made x p set c first board rows new lost begun all is gone_is e =
    let size : length rows ≡ men_on c board = ap (λ (l : List (List ℕ)). length l) is ∙ length-map (men_squares c board) (stand_row_if x p set c first board) in
    let missing : begun - length rows ≡ men_on c first - men_on c board = omega arith in
    e ∙ ap (λ (l : List (List ℕ)). l ++ replicate (begun - length rows) lost) is ∙ ap (λ (n : ℕ). map (stand_row_if x p set c first board) (men_squares c board) ++ replicate n lost) missing
    ∙ ap (λ (r : List ℕ). map (stand_row_if x p set c first board) (men_squares c board) ++ replicate (men_on c first - men_on c board) r) gone_is

-- what a side costs
pub side-told : (x : Supposition) (o : List Bool) (p : PriceList) (set found : List Bool) (c side : Colour) (board places : Places) (rows : List (List ℕ)) (begun n : ℕ) → side ≡ c → found ≡ set → places ≡ board → begun ≡ men_on c (array_of o) → (men_on side places ≤ begun) × (rows ≡ cost_table_if x p found side (array_of o) places) → n ≡ least_cost 16 rows → (men_on c board ≤ men_on c (array_of o)) × (n ≡ side_cost_if x o board p set c)
side-told x o p set found c side board places rows begun n same_side same_set same_board all h is =
    let few : men_on side places ≡ men_on c board = ap (λ (d : Colour). men_on d places) same_side ∙ ap (men_on c) same_board in (
      omega (arith, h.0, few, all),
      is ∙ ap (least_cost 16) (h.1 ∙ ap (λ (l : List Bool). cost_table_if x p l side (array_of o) places) same_set ∙ ap (λ (d : Colour). cost_table_if x p set d (array_of o) places) same_side ∙ ap (cost_table_if x p set c (array_of o)) same_board),
    )

-- the table of a side
pub table-told : (x : Supposition) (o : List Bool) (p : PriceList) (set found : List Bool) (c side : Colour) (board places : Places) (rows : List (List ℕ)) → side ≡ c → found ≡ set → places ≡ board → rows ≡ cost_table_if x p found side (array_of o) places → rows ≡ cost_table_if x p set c (array_of o) board
table-told x o p set found c side board places rows same_side same_set same_board is =
    is ∙ ap (λ (l : List Bool). cost_table_if x p l side (array_of o) places) same_set ∙ ap (λ (d : Colour). cost_table_if x p set d (array_of o) places) same_side ∙ ap (cost_table_if x p set c (array_of o)) same_board
