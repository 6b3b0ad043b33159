-- Sizes of whole searches, as a search counts them: each query has one, and its cost is no more.
use Rattle.std.proofs.Common.{◌≡◌, ℕ, zero, suc, ◌+◌, ◌≤◌, inl, inr, List, [], ◌∷◌, refl, sym, ◌∙◌, subst, arith}
use Rattle.board_base.specs.declared.unmoves.Unmove.{Unmove}
use Rattle.query_base.specs.Asked.{Asked}
use Rattle.query_base.specs.Reach.{Reaches}
use Rattle.query_base.proofs.Settled.{array_settled}
use Rattle.unmove_gen.specs.Listed.{unmoves}
use Rattle.unmove_gen.specs.Predecessor.{predecessor}
use Rattle.retro_search.specs.Refutable.{IsRefutable, IsShut}
use Rattle.retro_search.specs.Costs.{IsCost, SumsUpTo}
use Rattle.retro_search.specs.SearchSizes.{IsSearchSize, SumsAll}
use Rattle.retro_search.specs.Searched.{IsSizeBelow}
use Rattle.retro_search.proofs.Settled.{shut_settled}
use Rattle.retro_search.proofs.Costs.OneCost.{shut-end}

pub size_positive : (depth : ℕ) (q : Asked) (ancestors : List Asked) (n : ℕ) → IsSearchSize q depth ancestors n → 1 ≤ n
size_positive zero q ancestors n e = omega arith
size_positive (suc depth) q ancestors n (inl (end, e)) = omega arith
size_positive (suc depth) q ancestors n (inr (unshut, elsewhere, (m, below, e))) = omega arith

-- the size of the search of a query whose predecessors are searched
pub size_below : (depth : ℕ) (q : Asked) (ancestors : List Asked) (n : ℕ) → (IsShut q ancestors → ⊥) → (Reaches [] q → ⊥) → IsSearchSize q (suc depth) ancestors n → (m : ℕ) × IsSizeBelow q depth ancestors m × (n ≡ 1 + m)
size_below depth q ancestors n unshut elsewhere (inl (inl shut, e)) = absurd (unshut shut)
size_below depth q ancestors n unshut elsewhere (inl (inr here, e)) = absurd (elsewhere here)
size_below depth q ancestors n unshut elsewhere (inr (open_, not_here, (m, below, e))) = (m, below, e)

-- the first of the numbers that are added, and the sum of the others
pub next_size : (R : Unmove → ℕ → Type 0) (u : Unmove) (us vs : List Unmove) (n : ℕ) → us ≡ u ∷ vs → SumsAll R us n → (a : ℕ) × (b : ℕ) × R u a × SumsAll R vs b × (n ≡ a + b)
next_size R u us vs n first sums = subst (λ (l : List Unmove). SumsAll R l n) first sums

all_exist : (R : Unmove → ℕ → Type 0) → ((u : Unmove) → (n : ℕ) × R u n) → (us : List Unmove) → (n : ℕ) × SumsAll R us n
all_exist R each [] = (0, refl)
all_exist R each (u ∷ us) =
    let a = each u in
    let b = all_exist R each us in
    (a.0 + b.0, (a.0, b.0, a.1, b.1, refl))

pub size_exists : (depth : ℕ) (q : Asked) (ancestors : List Asked) → (n : ℕ) × IsSearchSize q depth ancestors n
size_exists zero q ancestors = (1, refl)
size_exists (suc depth) q ancestors = elim (shut_settled q ancestors) [
  | inl shut ↦ (1, inl (inl shut, refl))
  | inr unshut ↦ elim (array_settled q) [
    | inl here ↦ (1, inl (inr here, refl))
    | inr elsewhere ↦
        let s = all_exist (λ u. IsSearchSize (predecessor q u) depth (q ∷ ancestors)) (λ u. size_exists depth (predecessor q u) (q ∷ ancestors)) (unmoves q) in
        (1 + s.0, inr (unshut, elsewhere, (s.0, s.1, refl)))
  ]
]

all_one : (R : Unmove → ℕ → Type 0) → ((u : Unmove) (a b : ℕ) → R u a → R u b → a ≡ b) → (us : List Unmove) (m n : ℕ) → SumsAll R us m → SumsAll R us n → m ≡ n
all_one R one [] m n e f = e ∙ sym f
all_one R one (u ∷ us) m n (a, b, r, sums, e) (c, d, s, others, f) = omega (arith, one u a c r s, all_one R one us b d sums others)

pub size_one : (depth : ℕ) (q : Asked) (ancestors : List Asked) (m n : ℕ) → IsSearchSize q depth ancestors m → IsSearchSize q depth ancestors n → m ≡ n
size_one zero q ancestors m n e f = e ∙ sym f
size_one (suc depth) q ancestors m n (inl (end, e)) (inl (end2, f)) = e ∙ sym f
size_one (suc depth) q ancestors m n (inl (end, e)) (inr (unshut, elsewhere, below)) = absurd (shut-end q ancestors end unshut elsewhere)
size_one (suc depth) q ancestors m n (inr (unshut, elsewhere, below)) (inl (end, f)) = absurd (shut-end q ancestors end unshut elsewhere)
size_one (suc depth) q ancestors m n (inr (unshut, elsewhere, (a, sums, e))) (inr (unshut2, elsewhere2, (b, sums2, f))) =
    let same = all_one (λ u. IsSearchSize (predecessor q u) depth (q ∷ ancestors)) (λ u x y r s. size_one depth (predecessor q u) (q ∷ ancestors) x y r s) (unmoves q) a b sums sums2 in
    omega arith

-- a sum that ends early is no more than the whole, where each number is no more
sums_fit : (R S : Unmove → ℕ → Type 0) (P : Unmove → Type 0) → ((u : Unmove) (a b : ℕ) → R u a → S u b → a ≤ b) → (us : List Unmove) (m n : ℕ) → SumsUpTo R P us m → SumsAll S us n → m ≤ n
sums_fit R S P fit [] m n e f = omega arith
sums_fit R S P fit (u ∷ us) m n (a, r, inl (fails, e)) (c, d, s, others, f) = omega (arith, fit u a c r s)
sums_fit R S P fit (u ∷ us) m n (a, r, inr (passes, (b, sums, e))) (c, d, s, others, f) = omega (arith, fit u a c r s, sums_fit R S P fit us b d sums others)

pub cost_fits : (depth : ℕ) (q : Asked) (ancestors : List Asked) (m n : ℕ) → IsCost q depth ancestors m → IsSearchSize q depth ancestors n → m ≤ n
cost_fits zero q ancestors m n e f = omega arith
cost_fits (suc depth) q ancestors m n (inl (end, e)) size = omega (arith, size_positive (suc depth) q ancestors n size)
cost_fits (suc depth) q ancestors m n (inr (unshut, elsewhere, below)) (inl (end, f)) = absurd (shut-end q ancestors end unshut elsewhere)
cost_fits (suc depth) q ancestors m n (inr (unshut, elsewhere, (a, sums, e))) (inr (unshut2, elsewhere2, (b, sums2, f))) =
    let fits = sums_fit (λ u. IsCost (predecessor q u) depth (q ∷ ancestors)) (λ u. IsSearchSize (predecessor q u) depth (q ∷ ancestors)) (λ u. IsRefutable (predecessor q u) depth (q ∷ ancestors)) (λ u x y r s. cost_fits depth (predecessor q u) (q ∷ ancestors) x y r s) (unmoves q) a b sums sums2 in
    omega arith
