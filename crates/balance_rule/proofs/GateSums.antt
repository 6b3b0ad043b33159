-- The gates of the board's squares are no more than all gates together.
use Rattle.std.proofs.Common.{◌≡◌, ℕ, ◌+◌, ◌≤◌, ◌==◌, inl, inr, List, [], ◌∷◌, refl, sym, arith}
use Rattle.std.proofs.lemmas.Bool.{cases_eq, cond-true, cond-false, eq-eqb, ne_eqb}
use Rattle.std.proofs.lemmas.List.Sums.{sum_by-cons, sum_by-le-sum_by}
use Rattle.std.specs.List.{range_with_len, sum_by}
use Rattle.general_lemmas.proofs.SumsAmong.{at_only, only-there, sum-both, sum-only}
use Rattle.capture_prices.specs.Prices.{PriceList, all_gates, gate, toll_at}
use Rattle.capture_prices.specs.declared.prices.Gate.{Gate}
use Rattle.men_ledger.proofs.Keyed.{sum-zeros}

toll-split : (g : Gate) (gates : List Gate) (s : ℕ) → toll_at (g ∷ gates) s ≤ at_only g.square g.toll s + toll_at gates s
toll-split g gates s = elim (cases_eq g.square s) [
  | inl same ↦
      let here : toll_at (g ∷ gates) s ≡ g.toll = cond-true (g.square == s) g.toll (toll_at gates s) (eq-eqb g.square s same) in
      let alone : at_only g.square g.toll s ≡ g.toll = only-there g.square g.toll s (sym same) in
      omega (arith, here, alone)
  | inr other ↦
      let here : toll_at (g ∷ gates) s ≡ toll_at gates s = cond-false (g.square == s) g.toll (toll_at gates s) (ne_eqb g.square s other) in
      omega (arith, here)
]

tolls-sum : (gates : List Gate) → sum_by (toll_at gates) (range_with_len 0 64) ≤ sum_by (λ (g : Gate). g.toll) gates
tolls-sum [] = omega (arith, sum-zeros (toll_at []) (range_with_len 0 64) (λ s. refl))
tolls-sum (g ∷ gates) =
    let squares : List ℕ = range_with_len 0 64 in
    omega (
      arith,
      sum_by-le-sum_by (toll_at (g ∷ gates)) (λ s. at_only g.square g.toll s + toll_at gates s) squares (toll-split g gates),
      sum-both (at_only g.square g.toll) (toll_at gates) squares,
      sum-only g.square g.toll 64,
      tolls-sum gates,
      sum_by-cons (λ (x : Gate). x.toll) g gates,
    )

pub gates-sum : (p : PriceList) → sum_by (gate p) (range_with_len 0 64) ≤ all_gates p
gates-sum p = tolls-sum p.gates
