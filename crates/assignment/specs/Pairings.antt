-- Inner: no public clause cites this file.
-- Rows and columns in places: what holds while one row after another gets a column.
use Rattle.std.specs.Prelude.{ℕ, ◌≡◌, ◌+◌, ◌-◌, ◌<◌, ◌≤◌, List, length, slice_index}
use Rattle.std.specs.List.{All}
use Rattle.assignment.specs.Tables.{IsLimit, cost_at}
use Rattle.assignment.specs.declared.pairing.Pairing.{Pairing}

-- a table of costs, and the row and the column, the potential and the price in each of the places
module _ (table : List (List ℕ)) (width : ℕ) (p : Pairing width) where
  -- the cost of the row at one place with the column at another
  abbrev pub cost_between : ℕ → ℕ → ℕ
  cost_between m e = cost_at table (slice_index p.rows m) (slice_index p.columns e)

  -- by how much the potential of the row at one place may rise before it meets the column at another
  abbrev pub slack_of : ℕ → ℕ → ℕ
  slack_of m e = (cost_between m e + slice_index p.prices e) - slice_index p.u m

  -- the potential of the row at one place meets the column at another
  abbrev pub Meets : ℕ → ℕ → Type 0
  Meets m e = slice_index p.u m ≡ cost_between m e + slice_index p.prices e

  -- each row and each column has a place, no potential is above what a column would cost the row, and none is above a limit of the costs
  pub record IsSound : Type 0 where
    pub columns_below : (m : ℕ) → m < width → slice_index p.columns m < width
    pub columns_apart : (m e : ℕ) → m < width → e < width → slice_index p.columns m ≡ slice_index p.columns e → m ≡ e
    pub rows_apart : (m e : ℕ) → m < width → e < width → slice_index p.rows m ≡ slice_index p.rows e → m ≡ e
    pub columns_reached : (j : ℕ) → j < width → (m : ℕ) × (m < width) × (slice_index p.columns m ≡ j)
    pub rows_reached : (i : ℕ) → i < width → (m : ℕ) × (m < width) × (slice_index p.rows m ≡ i)
    pub fair : (m e : ℕ) → m < width → e < width → slice_index p.u m ≤ cost_between m e + slice_index p.prices e
    pub u_small : (limit : ℕ) → IsLimit table limit → (m : ℕ) → m < width → slice_index p.u m ≤ limit
    pub prices_small : (limit : ℕ) → IsLimit table limit → (m : ℕ) → m < width → slice_index p.prices m ≤ limit

  -- the places from this one on are as in the beginning
  pub record IsUntouchedFrom (n : ℕ) : Type 0 where
    pub rows : (m : ℕ) → n ≤ m → m < width → slice_index p.rows m ≡ m
    pub u : (m : ℕ) → n ≤ m → m < width → slice_index p.u m ≡ 0
    pub prices : (m : ℕ) → n ≤ m → m < width → slice_index p.prices m ≡ 0

  -- the first n rows are paired with columns that their potentials meet, and no other row or column is
  pub record IsMatched (n : ℕ) : Type 0 where
    pub sound : IsSound
    pub rows_below : (m : ℕ) → m < n → slice_index p.rows m < n
    pub met : (m : ℕ) → m < n → Meets m m
    pub rest : IsUntouchedFrom n

  -- The row in place 0 seeks a column, and the column there is free. The first k places are a tree: from the row of its parent
  -- each of them was reached, since the potential of that row meets its column.
  pub record IsTree (n k : ℕ) (parents : List ℕ) : Type 0 where
    pub sound : IsSound
    pub root : 1 ≤ k
    pub size : k ≤ n + 1
    pub room : n < width
    pub rows_below : (m : ℕ) → m ≤ n → slice_index p.rows m ≤ n
    pub met : (m : ℕ) → 1 ≤ m → m ≤ n → Meets m m
    pub free : slice_index p.prices 0 ≡ 0
    pub rest : IsUntouchedFrom (n + 1)
    pub earlier : (m : ℕ) → 1 ≤ m → m < k → slice_index parents m < m
    pub edges : (m : ℕ) → 1 ≤ m → m < k → Meets (slice_index parents m) m

  -- While columns are handed on: the row in place m meets the free column in place e, and all other rows but that in place 0 have
  -- columns that they meet.
  pub record IsHanding (n m e : ℕ) (parents : List ℕ) : Type 0 where
    pub sound : IsSound
    pub inner : m ≤ n
    pub room : n < width
    pub free : e < width
    pub beyond : 0 < e → n < e
    pub edge : Meets m e
    pub rows_below : (i : ℕ) → i ≤ n → slice_index p.rows i ≤ n
    pub met : (i : ℕ) → 1 ≤ i → i ≤ n → Meets i i
    pub root : 0 < e → slice_index p.prices 0 ≡ 0
    pub rows : (i : ℕ) → n < i → i < width → slice_index p.rows i ≡ i
    pub u : (i : ℕ) → n < i → i < width → slice_index p.u i ≡ 0
    pub prices : (i : ℕ) → n < i → i < width → (i ≡ e → ⊥) → slice_index p.prices i ≡ 0
    pub earlier : (i : ℕ) → 1 ≤ i → i ≤ m → slice_index parents i < i
    pub edges : (i : ℕ) → 1 ≤ i → i ≤ m → Meets (slice_index parents i) i

-- what is not among the first k places, and the free column in place 0
abbrev pub IsOutside : ℕ → ℕ → Type 0
IsOutside k e = 0 < e → k ≤ e

-- from a place of the tree to one outside, with the slack between them
pub record IsLink (table : List (List ℕ)) (width : ℕ) (p : Pairing width) (k m e by : ℕ) : Type 0 where
  pub within : m < k
  pub to : e < width
  pub outside : IsOutside k e
  pub slack : by ≡ slack_of table width p m e

-- the numbers at these places rise, and the others stay
pub record IsRaised (from to by : ℕ) (old new : List ℕ) : Type 0 where
  pub size : length new ≡ length old
  pub raised : (m : ℕ) → from ≤ m → m < to → slice_index new m ≡ slice_index old m + by
  pub below : (m : ℕ) → m < from → slice_index new m ≡ slice_index old m
  pub above : (m : ℕ) → to ≤ m → slice_index new m ≡ slice_index old m

-- the numbers at these two places have changed places, and the others stay
pub record IsSwapped (a b : ℕ) (old new : List ℕ) : Type 0 where
  pub at_first : slice_index new a ≡ slice_index old b
  pub at_second : slice_index new b ≡ slice_index old a
  pub others : (m : ℕ) → (m ≡ a → ⊥) → (m ≡ b → ⊥) → slice_index new m ≡ slice_index old m

-- the columns in these two places have changed places, each with its price
pub record IsColumnSwap (a b width : ℕ) (p q : Pairing width) : Type 0 where
  pub rows : q.rows ≡ p.rows
  pub u : q.u ≡ p.u
  pub columns : IsSwapped a b p.columns q.columns
  pub prices : IsSwapped a b p.prices q.prices

-- what stands in these two places has changed places
pub record IsPlaceSwap (a b width : ℕ) (p q : Pairing width) : Type 0 where
  pub rows : IsSwapped a b p.rows q.rows
  pub u : IsSwapped a b p.u q.u
  pub columns : IsSwapped a b p.columns q.columns
  pub prices : IsSwapped a b p.prices q.prices

-- for each number below the count, a place where it is among the keys
pub record ArePlaces (width count : ℕ) (keys places : List ℕ) : Type 0 where
  pub size : length places ≡ count
  pub within : All (λ m. m < width) places
  pub at : (i : ℕ) → i < count → slice_index keys (slice_index places i) ≡ i
