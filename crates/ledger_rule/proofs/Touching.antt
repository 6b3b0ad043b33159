-- A supposition of one man changes one row, and one of who began on a home changes one column.
use Rattle.std.proofs.Common.{◌≡◌, ◌≢◌, ℕ, ◌<◌, ◌≤◌, ◌==◌, Bool, cond, ◌&&◌, not, List, length, slice_index, refl, ap, sym, subst, ◌∙◌, arith}
use Rattle.std.specs.Prelude.{Option, IfSome, Some}
use Rattle.std.specs.Bool.{beq}
use Rattle.std.proofs.lemmas.Bool.{cond-false, eq-eqb, ne_eqb}
use Rattle.std.proofs.lemmas.List.FromFn.{get_or-map-range_with_len}
use Rattle.board_base.specs.Board.{Places, array_of, at, home_of, is_in, men_squares}
use Rattle.board_base.specs.declared.men.Colour.{Colour}
use Rattle.board_base.specs.declared.men.Man.{Man}
use Rattle.assignment.specs.Tables.{cost_at}
use Rattle.capture_prices.specs.Prices.{PriceList}
use Rattle.balance_rule.specs.Balance.{men_on}
use Rattle.balance_rule.specs.Costs.{gone, never, stands}
use Rattle.ledger_facts.specs.Accounts.{cost_table_if, gone_if, has_become, stand_row_if, stands_if}
use Rattle.ledger_facts.specs.declared.suppositions.Supposition.{Supposition}
use Rattle.ledger_facts.specs.declared.suppositions.Supposition.TheVariants.{Began, Went, Stands, Gone, AtMost, AtLeast}
use Rattle.ledger_pairings.specs.Rests.{IsColumnChanged, IsRowChanged}
use Rattle.ledger_rule.specs.Kept.{IsSide, IsTableOf, nothing}
use Rattle.ledger_rule.specs.Touched.{AreSame, IsOfHome, IsOfMan}
use Rattle.ledger_rule.specs.declared.sides.Side.{Side}
use Rattle.ledger_rule.specs.declared.sides.Table.{Table}
use Rattle.ledger_rule.proofs.TableCells.{cell-gone, cell-standing, cells-same, homes-apart, length-table, men-apart}

-- another man
other-man : (x : Supposition) (p : PriceList) (set : List Bool) (c : Colour) (first : Option Man) (h : ℕ) (place : Option Man) (s t : ℕ) → IsOfMan x t → s ≢ t → stands_if x p set c first h place s ≡ stands p set c first h place s
other-man (Began u homes) p set c first h place s t of other = cond-false ((s == u) && not (is_in homes h)) never (stands p set c first h place s) (ap (λ (b : Bool). b && not (is_in homes h)) (ne_eqb s u (λ same. other (same ∙ of))))
other-man (Went u straight) p set c first h place s t of other = cond-false (s == u) _ (stands p set c first h place s) (ne_eqb s u (λ same. other (same ∙ of)))
other-man (Stands k promoted) p set c first h place s t of other = absurd of
other-man (Gone k promoted struck) p set c first h place s t of other = absurd of
other-man (AtMost side squares n) p set c first h place s t of other = absurd of
other-man (AtLeast side squares n) p set c first h place s t of other = absurd of

man-gone : (x : Supposition) (p : PriceList) (set : List Bool) (c : Colour) (first : Option Man) (h t : ℕ) → IsOfMan x t → gone_if x p set c first h ≡ gone p set c first h
man-gone (Began u homes) p set c first h t of = refl
man-gone (Went u straight) p set c first h t of = refl
man-gone (Stands k promoted) p set c first h t of = absurd of
man-gone (Gone k promoted struck) p set c first h t of = absurd of
man-gone (AtMost side squares n) p set c first h t of = absurd of
man-gone (AtLeast side squares n) p set c first h t of = absurd of

-- another home
other-home : (x : Supposition) (p : PriceList) (set : List Bool) (c : Colour) (first : Option Man) (h : ℕ) (place : Option Man) (s k : ℕ) → IsOfHome x k → h ≢ k → stands_if x p set c first h place s ≡ stands p set c first h place s
other-home (Began u homes) p set c first h place s k of other = absurd of
other-home (Went u straight) p set c first h place s k of other = absurd of
other-home (Stands u promoted) p set c first h place s k of other = cond-false ((h == u) && not (beq promoted (has_become first place))) never (stands p set c first h place s) (ap (λ (b : Bool). b && not (beq promoted (has_become first place))) (ne_eqb h u (λ same. other (same ∙ of))))
other-home (Gone u promoted struck) p set c first h place s k of other = cond-false (h == u) never (stands p set c first h place s) (ne_eqb h u (λ same. other (same ∙ of)))
other-home (AtMost side squares n) p set c first h place s k of other = absurd of
other-home (AtLeast side squares n) p set c first h place s k of other = absurd of

other-gone : (x : Supposition) (p : PriceList) (set : List Bool) (c : Colour) (first : Option Man) (h k : ℕ) → IsOfHome x k → h ≢ k → gone_if x p set c first h ≡ gone p set c first h
other-gone (Began u homes) p set c first h k of other = absurd of
other-gone (Went u straight) p set c first h k of other = absurd of
other-gone (Stands u promoted) p set c first h k of other = cond-false (h == u) never (gone p set c first h) (ne_eqb h u (λ same. other (same ∙ of)))
other-gone (Gone u promoted struck) p set c first h k of other = cond-false (h == u) _ (gone p set c first h) (ne_eqb h u (λ same. other (same ∙ of)))
other-gone (AtMost side squares n) p set c first h k of other = absurd of
other-gone (AtLeast side squares n) p set c first h k of other = absurd of

-- the table that is kept
pub table-kept : (o : List Bool) (board : Places) (p : PriceList) (set : List Bool) (c : Colour) (s : Side) (t : Table) → IsSide o board p set c s → s.table ≡ Some t → IsTableOf (cost_table_if nothing p set c (array_of o) board) t
table-kept o board p set c s t kept is = subst (λ (u : Option Table). IfSome u (IsTableOf (cost_table_if nothing p set c (array_of o) board))) is kept.table

module _ (o : List Bool) (board : Places) (p : PriceList) (set : List Bool) (c : Colour) (s : Side) (t : Table) (kept : IsSide o board p set c s) (is : s.table ≡ Some t) (x : Supposition) where
  table : IsTableOf (cost_table_if nothing p set c (array_of o) board) t
  table = table-kept o board p set c s t kept is

  pub begun : men_on c (array_of o) ≡ 16
  begun = sym (length-table nothing p set c (array_of o) board kept.few) ∙ table.size

  size : length (cost_table_if x p set c (array_of o) board) ≡ 16
  size = length-table x p set c (array_of o) board kept.few ∙ begun

  plain : (r j : ℕ) → cost_at (cost_table_if nothing p set c (array_of o) board) r j ≡ cost_at t.rows r j
  plain r j = ap (λ (l : List (List ℕ)). cost_at l r j) (sym table.same)

  pub place-low : (i : ℕ) → i < length (s.men.items) → i < 16
  place-low i low = let e = ap (λ (l : List ℕ). length l) kept.men in let few = kept.few in omega (arith, low, e, few, begun)

  -- what he costs if nothing is supposed
  pub plain-cell : (i u j : ℕ) → i < length (s.men.items) → slice_index (s.men.items) i ≡ u → j < 16 → cost_at t.rows i j ≡ stands p set c (at (array_of o) (home_of c j)) (home_of c j) (at board u) u
  plain-cell i u j low there inside =
      sym (plain i j) ∙ cell-standing nothing p set c (array_of o) board i j (omega (arith, low, ap (λ (l : List ℕ). length l) kept.men)) inside
      ∙ ap (λ (v : ℕ). stands p set c (at (array_of o) (home_of c j)) (home_of c j) (at board v) v) (ap (λ (l : List ℕ). slice_index l i) (sym kept.men) ∙ there)

  pub plain-gone : (r j : ℕ) → r < 16 → length (s.men.items) ≤ r → j < 16 → cost_at t.rows r j ≡ gone p set c (at (array_of o) (home_of c j)) (home_of c j)
  plain-gone r j low past inside = sym (plain r j) ∙ cell-gone nothing p set c (array_of o) board r j (omega (arith, past, ap (λ (l : List ℕ). length l) kept.men)) (omega (arith, low, begun)) inside

  -- where he is in no row
  pub nobody : (u : ℕ) → IsOfMan x u → ((i : ℕ) → i < length (s.men.items) → slice_index (s.men.items) i ≢ u) → AreSame t.rows (cost_table_if x p set c (array_of o) board)
  nobody u of none = record {
    size = size;
    cells = λ r j low inside. cells-same x p set c (array_of o) board r j inside (omega (arith, low, begun))
        (λ v there at_r. other-man x p set c (at (array_of o) (home_of c j)) (home_of c j) (at board v) v u of (λ same. none r (omega (arith, there, ap (λ (l : List ℕ). length l) kept.men)) (ap (λ (l : List ℕ). slice_index l r) kept.men ∙ at_r ∙ same)))
        (λ past. man-gone x p set c (at (array_of o) (home_of c j)) (home_of c j) u of) ∙ plain r j;
  }

  -- where he is in this row
  pub one-row : (u i : ℕ) (row : List ℕ) → IsOfMan x u → i < length (s.men.items) → slice_index (s.men.items) i ≡ u
      → ((j : ℕ) → j < 16 → slice_index row j ≡ stands_if x p set c (at (array_of o) (home_of c j)) (home_of c j) (at board u) u) → IsRowChanged i row t.rows (cost_table_if x p set c (array_of o) board)
  one-row u i row of low there cells =
      let men = ap (λ (l : List ℕ). length l) kept.men in
      let low_i : i < men_on c board = omega (arith, low, men) in
      let square : slice_index (men_squares c board) i ≡ u = ap (λ (l : List ℕ). slice_index l i) (sym kept.men) ∙ there in
      record {
        size = size;
        here = λ j inside. cell-standing x p set c (array_of o) board i j low_i inside ∙ ap (λ (v : ℕ). stands_if x p set c (at (array_of o) (home_of c j)) (home_of c j) (at board v) v) square ∙ sym (cells j inside);
        others = λ r j low_r inside other. cells-same x p set c (array_of o) board r j inside (omega (arith, low_r, begun))
            (λ v in_r at_r. other-man x p set c (at (array_of o) (home_of c j)) (home_of c j) (at board v) v u of (λ same. other (men-apart c board r i in_r low_i (at_r ∙ same ∙ sym square))))
            (λ past. man-gone x p set c (at (array_of o) (home_of c j)) (home_of c j) u of) ∙ plain r j;
      }

  -- where the home is none of the side's
  pub nowhere : (k : ℕ) → IsOfHome x k → ((j : ℕ) → j < 16 → home_of c j ≢ k) → AreSame t.rows (cost_table_if x p set c (array_of o) board)
  nowhere k of none = record {
    size = size;
    cells = λ r j low inside. cells-same x p set c (array_of o) board r j inside (omega (arith, low, begun))
        (λ v there at_r. other-home x p set c (at (array_of o) (home_of c j)) (home_of c j) (at board v) v k of (none j inside))
        (λ past. other-gone x p set c (at (array_of o) (home_of c j)) (home_of c j) k of (none j inside)) ∙ plain r j;
  }

  -- where it is this one
  pub one-column : (k i : ℕ) (column : List ℕ) → IsOfHome x k → home_of c i ≡ k → ((r : ℕ) → r < 16 → cost_at (cost_table_if x p set c (array_of o) board) r i ≡ slice_index column r) → IsColumnChanged i column t.rows (cost_table_if x p set c (array_of o) board)
  one-column k i column of there cells = record {
    size = size;
    here = cells;
    others = λ r j low_r inside other.
        let apart : home_of c j ≢ k = λ same. other (homes-apart c j i (same ∙ sym there)) in
        cells-same x p set c (array_of o) board r j inside (omega (arith, low_r, begun))
        (λ v in_r at_r. other-home x p set c (at (array_of o) (home_of c j)) (home_of c j) (at board v) v k of apart)
        (λ past. other-gone x p set c (at (array_of o) (home_of c j)) (home_of c j) k of apart) ∙ plain r j;
  }

-- the cells of one man's row
pub row-cells : (x : Supposition) (p : PriceList) (set : List Bool) (c : Colour) (first board : Places) (u j : ℕ) (row : List ℕ) → row ≡ stand_row_if x p set c first board u → j < 16 → slice_index row j ≡ stands_if x p set c (at first (home_of c j)) (home_of c j) (at board u) u
unfolding stand_row_if
row-cells x p set c first board u j row is inside = ap (λ (l : List ℕ). slice_index l j) is ∙ get_or-map-range_with_len (λ (k : ℕ). stands_if x p set c (at first (home_of c k)) (home_of c k) (at board u) u) 0 16 j j 0 inside (omega arith)

-- those of a man who is supposed to have begun on some homes
pub began-cell : (t : ℕ) (homes : List Bool) (p : PriceList) (set : List Bool) (c : Colour) (first : Option Man) (h : ℕ) (place : Option Man) (cell plain : ℕ) → cell ≡ cond (not (is_in homes h)) never plain → plain ≡ stands p set c first h place t → cell ≡ stands_if (Began t homes) p set c first h place t
began-cell t homes p set c first h place cell plain is plain_is =
    is ∙ ap (λ (n : ℕ). cond (not (is_in homes h)) never n) plain_is ∙ ap (λ (b : Bool). cond (b && not (is_in homes h)) never (stands p set c first h place t)) (sym (eq-eqb t t refl))
