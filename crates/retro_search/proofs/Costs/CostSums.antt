-- Costs, as a search counts them.
use Rattle.std.proofs.Common.{◌≡◌, ℕ, zero, suc, ◌+◌, ◌≤◌, inl, inr, List, [], ◌∷◌, subst, arith}
use Rattle.board_base.specs.declared.unmoves.Unmove.{Unmove}
use Rattle.query_base.specs.Asked.{Asked}
use Rattle.query_base.specs.Reach.{Reaches}
use Rattle.retro_search.specs.Refutable.{IsShut}
use Rattle.retro_search.specs.Costs.{IsCost, SumsUpTo}
use Rattle.retro_search.specs.Searched.{IsCostBelow}

pub cost_positive : (depth : ℕ) (q : Asked) (ancestors : List Asked) (n : ℕ) → IsCost q depth ancestors n → 1 ≤ n
cost_positive zero q ancestors n e = omega arith
cost_positive (suc depth) q ancestors n (inl (end, e)) = omega arith
cost_positive (suc depth) q ancestors n (inr (unshut, elsewhere, (m, below, e))) = omega arith

-- the cost of a query whose predecessors are searched
pub cost_below : (depth : ℕ) (q : Asked) (ancestors : List Asked) (n : ℕ) → (IsShut q ancestors → ⊥) → (Reaches [] q → ⊥) → IsCost q (suc depth) ancestors n → (m : ℕ) × IsCostBelow q depth ancestors m × (n ≡ 1 + m)
cost_below depth q ancestors n unshut elsewhere (inl (inl shut, e)) = absurd (unshut shut)
cost_below depth q ancestors n unshut elsewhere (inl (inr here, e)) = absurd (elsewhere here)
cost_below depth q ancestors n unshut elsewhere (inr (open_, not_here, (m, below, e))) = (m, below, e)

first_at : (R : Unmove → ℕ → Type 0) (P : Unmove → Type 0) (u : Unmove) (us : List Unmove) (n : ℕ) → SumsUpTo R P (u ∷ us) n → (a : ℕ) × R u a × (a ≤ n)
first_at R P u us n (a, r, inl (fails, e)) = (a, r, omega arith)
first_at R P u us n (a, r, inr (passes, (b, sums, e))) = (a, r, omega arith)

-- the first of the numbers that are added
pub first_number : (R : Unmove → ℕ → Type 0) (P : Unmove → Type 0) (u : Unmove) (us vs : List Unmove) (n : ℕ) → us ≡ u ∷ vs → SumsUpTo R P us n → (a : ℕ) × R u a × (a ≤ n)
first_number R P u us vs n first sums = first_at R P u vs n (subst (λ (l : List Unmove). SumsUpTo R P l n) first sums)

later_at : (R : Unmove → ℕ → Type 0) (P : Unmove → Type 0) (u : Unmove) (us : List Unmove) (n : ℕ) → P u → SumsUpTo R P (u ∷ us) n → (a : ℕ) × (b : ℕ) × R u a × SumsUpTo R P us b × (n ≡ a + b)
later_at R P u us n holds (a, r, inl (fails, e)) = absurd (fails holds)
later_at R P u us n holds (a, r, inr (passes, (b, sums, e))) = (a, b, r, sums, e)

-- the numbers after the first, which isn't the last
pub later_numbers : (R : Unmove → ℕ → Type 0) (P : Unmove → Type 0) (u : Unmove) (us vs : List Unmove) (n : ℕ) → us ≡ u ∷ vs → P u → SumsUpTo R P us n → (a : ℕ) × (b : ℕ) × R u a × SumsUpTo R P vs b × (n ≡ a + b)
later_numbers R P u us vs n first holds sums = later_at R P u vs n holds (subst (λ (l : List Unmove). SumsUpTo R P l n) first sums)
