-- What is refutable at a depth is so at a greater one, at the same cost.
use Rattle.std.proofs.Common.{ℕ, zero, suc, ◌≤◌, inl, inr, List, [], ◌∷◌, arith}
use Rattle.std.specs.List.{Contains}
use Rattle.general_lemmas.proofs.Lists.{contains-first, contains-later}
use Rattle.board_base.specs.declared.unmoves.Unmove.{Unmove}
use Rattle.query_base.specs.Asked.{Asked}
use Rattle.unmove_gen.specs.Listed.{unmoves}
use Rattle.unmove_gen.specs.Predecessor.{predecessor}
use Rattle.retro_search.specs.Refutable.{IsRefutable}
use Rattle.retro_search.specs.Costs.{IsCost, SumsUpTo}

pub deeper_refutable : (q : Asked) (k depth : ℕ) (ancestors : List Asked) → k ≤ depth → IsRefutable q k ancestors → IsRefutable q depth ancestors
deeper_refutable q zero zero ancestors low ref = ref
deeper_refutable q zero (suc depth) ancestors low ref = inl ref
deeper_refutable q (suc k) zero ancestors low ref = absurd (omega arith)
deeper_refutable q (suc k) (suc depth) ancestors low (inl shut) = inl shut
deeper_refutable q (suc k) (suc depth) ancestors low (inr ref) =
    inr (ref.0, λ u listed. deeper_refutable (predecessor q u) k depth (q ∷ ancestors) (omega arith) (ref.1 u listed))

-- the same sum, where each number stays
sums-like : (R S : Unmove → ℕ → Type 0) (P Q : Unmove → Type 0) (us : List Unmove) (n : ℕ) → ((u : Unmove) → Contains us u → P u) → ((u : Unmove) → Contains us u → Q u) → ((u : Unmove) (a : ℕ) → Contains us u → R u a → S u a) → SumsUpTo R P us n → SumsUpTo S Q us n
sums-like R S P Q [] n passes holds same e = e
sums-like R S P Q (u ∷ us) n passes holds same (a, r, inl (fails, e)) = absurd (fails (passes u (contains-first u us)))
sums-like R S P Q (u ∷ us) n passes holds same (a, r, inr (own, (b, sums, e))) = (
  a,
  same u a (contains-first u us) r,
  inr (
    holds u (contains-first u us),
    (
      b,
      sums-like R S P Q us b (λ v there. passes v (contains-later u us v there)) (λ v there. holds v (contains-later u us v there)) (λ v c there. same v c (contains-later u us v there)) sums,
      e,
    ),
  ),
)

pub deeper_cost : (q : Asked) (k depth : ℕ) (ancestors : List Asked) (n : ℕ) → k ≤ depth → IsRefutable q k ancestors → IsCost q k ancestors n → IsCost q depth ancestors n
deeper_cost q zero zero ancestors n low ref cost = cost
deeper_cost q zero (suc depth) ancestors n low ref cost = inl (inl ref, cost)
deeper_cost q (suc k) zero ancestors n low ref cost = absurd (omega arith)
deeper_cost q (suc k) (suc depth) ancestors n low ref (inl end) = inl end
deeper_cost q (suc k) (suc depth) ancestors n low (inl shut) (inr (unshut, elsewhere, sums)) = absurd (unshut shut)
deeper_cost q (suc k) (suc depth) ancestors n low (inr ref) (inr (unshut, elsewhere, (m, sums, e))) =
    inr (
      unshut,
      elsewhere,
      (
        m,
        sums-like (λ u. IsCost (predecessor q u) k (q ∷ ancestors)) (λ u. IsCost (predecessor q u) depth (q ∷ ancestors)) (λ u. IsRefutable (predecessor q u) k (q ∷ ancestors)) (λ u. IsRefutable (predecessor q u) depth (q ∷ ancestors)) (unmoves q) m
            ref.1
            (λ u listed. deeper_refutable (predecessor q u) k depth (q ∷ ancestors) (omega arith) (ref.1 u listed))
            (λ u a listed own. deeper_cost (predecessor q u) k depth (q ∷ ancestors) a (omega arith) (ref.1 u listed) own)
            sums,
        e,
      ),
    )
