-- Whole searches of a query that is expanded, child after child.
use Rattle.std.proofs.Common.{◌≡◌, ◌≢◌, ℕ, ◌+◌, ◌-◌, ◌<◌, ◌≤◌, List, [], ◌∷◌, sym, subst, arith}
use Rattle.board_base.specs.declared.unmoves.Unmove.{Unmove}
use Rattle.query_base.specs.Asked.{Asked}
use Rattle.query_base.specs.Reach.{Reaches}
use Rattle.unmove_gen.specs.Listed.{unmoves}
use Rattle.unmove_gen.specs.Predecessor.{predecessor}
use Rattle.retro_search.specs.Refutable.{IsShut}
use Rattle.retro_search.specs.SearchSizes.{IsSearchSize, SumsAll}
use Rattle.retro_search.specs.Searched.{IsSizeBelow}
use Rattle.retro_search.specs.Unrefuted.{IfSpent, IsLengthened}
use Rattle.retro_search.specs.declared.unrefuted.Unrefuted.{Unrefuted}
use Rattle.retro_search.proofs.Costs.WholeSizes.{next_size, size_below}
use Rattle.retro_search.proofs.Expansions.{less_one}
use Rattle.retro_search.proofs.Lines.OpenLines.{stop_spent}

-- the sizes of the searches of a query's predecessors
abbrev pub SizeBy : Asked → ℕ → List Asked → Unmove → ℕ → Type 0
SizeBy q below ancestors u n = IsSearchSize (predecessor q u) below (q ∷ ancestors) n

-- where so many visits were left at first, and these are left now, the searches by the unmoves that are left fit in the whole
pub record IsSizeLeft (q : Asked) (below : ℕ) (ancestors : List Asked) (rest : List Unmove) (left first n : ℕ) : Type 0 where
  pub later : ℕ
  pub sums : SumsAll (SizeBy q below ancestors) rest later
  pub total : first + later ≤ left + n

-- the same of whatever size the whole has
pub record IsSized (q : Asked) (below : ℕ) (ancestors : List Asked) (rest : List Unmove) (left first : ℕ) : Type 0 where
  pub fits : (n : ℕ) → IsSizeBelow q below ancestors n → IsSizeLeft q below ancestors rest left first n

pub sized_none : (q : Asked) (below : ℕ) (ancestors : List Asked) (rest : List Unmove) (left : ℕ) → rest ≡ unmoves q → IsSized q below ancestors rest left left
sized_none q below ancestors rest left all = record {
  fits = λ n sums. record { later = n; sums = subst (λ (us : List Unmove). SumsAll (SizeBy q below ancestors) us n) (sym all) sums; total = omega arith };
}

-- a child's size, by the query and the ancestors that it has
own_size : (q p : Asked) (below : ℕ) (ancestors above : List Asked) (u : Unmove) (n : ℕ) → p ≡ predecessor q u → above ≡ q ∷ ancestors → SizeBy q below ancestors u n → IsSearchSize p below above n
own_size q p below ancestors above u n here up h =
    subst (λ (b : Asked). IsSearchSize b below above n) (sym here) (subst (λ (l : List Asked). IsSearchSize (predecessor q u) below l n) (sym up) h)

pub sized_more : (q : Asked) (below : ℕ) (ancestors : List Asked) (rest others : List Unmove) (left now first : ℕ) (u : Unmove) (p : Asked) (above : List Asked) → p ≡ predecessor q u → above ≡ q ∷ ancestors → IsSized q below ancestors rest left first → rest ≡ u ∷ others → ((n : ℕ) → IsSearchSize p below above n → left ≤ now + n) → IsSized q below ancestors others now first
sized_more q below ancestors rest others left now first u p above here up s next size = record {
  fits = λ n sums.
      let before = s.fits n sums in
      let k = next_size (SizeBy q below ancestors) u rest others before.later next before.sums in
      let own : left ≤ now + k.0 = size k.0 (own_size q p below ancestors above u k.0 here up k.2) in
      record { later = k.1; sums = k.3; total = omega (arith, before.total, own, k.4) };
}

pub sized_spent : (q : Asked) (below : ℕ) (ancestors : List Asked) (rest others : List Unmove) (left first : ℕ) (u : Unmove) (p : Asked) (above : List Asked) (s t : Unrefuted) → p ≡ predecessor q u → above ≡ q ∷ ancestors → IsSized q below ancestors rest left first → rest ≡ u ∷ others → IsLengthened s u t → IfSpent s ((n : ℕ) → IsSearchSize p below above n → left < n) → IfSpent t ((n : ℕ) → IsSizeBelow q below ancestors n → first < n)
sized_spent q below ancestors rest others left first u p above s t here up x next longer spent =
    stop_spent s t u _ _ (λ size n sums.
    let before = x.fits n sums in
    let k = next_size (SizeBy q below ancestors) u rest others before.later next before.sums in
    let own : left < k.0 = size k.0 (own_size q p below ancestors above u k.0 here up k.2) in
    omega (arith, before.total, own, k.4)) longer spent

pub sized_all : (q : Asked) (below : ℕ) (ancestors : List Asked) (rest : List Unmove) (left first : ℕ) → IsSized q below ancestors rest left first → (n : ℕ) → IsSizeBelow q below ancestors n → first ≤ left + n
sized_all q below ancestors rest left first s n sums = let b = s.fits n sums in omega (arith, b.total)

-- the size of the search of a query is one more than that of what is below it
own_below : (depth : ℕ) (q : Asked) (ancestors : List Asked) (n : ℕ) → depth ≢ 0 → (IsShut q ancestors → ⊥) → (Reaches [] q → ⊥) → IsSearchSize q depth ancestors n → (m : ℕ) × IsSizeBelow q (depth - 1) ancestors m × (n ≡ 1 + m)
own_below depth q ancestors n some unshut elsewhere size =
    size_below (depth - 1) q ancestors n unshut elsewhere (subst (λ (d : ℕ). IsSearchSize q d ancestors n) (sym (less_one depth some)) size)

pub sized_ok : (depth : ℕ) (q : Asked) (ancestors : List Asked) (left before now : ℕ) → depth ≢ 0 → left ≢ 0 → before ≡ left - 1 → (IsShut q ancestors → ⊥) → (Reaches [] q → ⊥) → ((m : ℕ) → IsSizeBelow q (depth - 1) ancestors m → before ≤ now + m) → (n : ℕ) → IsSearchSize q depth ancestors n → left ≤ now + n
sized_ok depth q ancestors left before now some any same unshut elsewhere size n h =
    let own = own_below depth q ancestors n some unshut elsewhere h in omega (arith, size own.0 own.1, own.2)

pub outsized : (depth : ℕ) (q : Asked) (ancestors : List Asked) (left before : ℕ) → depth ≢ 0 → left ≢ 0 → before ≡ left - 1 → (IsShut q ancestors → ⊥) → (Reaches [] q → ⊥) → ((m : ℕ) → IsSizeBelow q (depth - 1) ancestors m → before < m) → (n : ℕ) → IsSearchSize q depth ancestors n → left < n
outsized depth q ancestors left before some any same unshut elsewhere size n h =
    let own = own_below depth q ancestors n some unshut elsewhere h in omega (arith, size own.0 own.1, own.2)
