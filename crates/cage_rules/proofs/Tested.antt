-- Tests of each square of the board, and of some square.
use Rattle.std.proofs.Common.{◌≡◌, ℕ, zero, suc, ◌+◌, ◌<◌, inl, inr, Bool, true, false, List, length, refl, arith}
use Rattle.std.proofs.lemmas.Bool.{or_cases, both_ways, cases_lt}
use Rattle.std.proofs.lemmas.List.{get_or_past}
use Rattle.std.specs.List.{list_all, list_any, range_with_len}
use Rattle.board_base.specs.Board.{is_in}
use Rattle.general_lemmas.proofs.Ranges.{all-each, all_in_range}

pub all_board : (p : ℕ → Bool) → ((i : ℕ) → i < 64 → p i ≡ true) → list_all p (range_with_len 0 64) ≡ true
all_board p h = all-each p 0 64 (λ i low high. h i (omega arith))

pub at_board : (p : ℕ → Bool) (i : ℕ) → list_all p (range_with_len 0 64) ≡ true → i < 64 → p i ≡ true
at_board p i h inside = all_in_range p 0 64 i h (omega arith) (omega arith)

-- some number of the range passes the test
pub any-told : (p : ℕ → Bool) (k n : ℕ) → list_any p (range_with_len k n) ≡ true → (i : ℕ) × (i < k + n) × (p i ≡ true)
any-told p k zero h = absurd (both_ways false refl h)
any-told p k (suc n) h = elim (or_cases (p k) (list_any p (range_with_len (k + 1) n)) h) [
  | inl here ↦ (k, omega arith, here)
  | inr later ↦ let rest = any-told p (k + 1) n later in (rest.0, (let low : rest.0 < k + 1 + n = rest.1 in omega arith), rest.2)
]

-- a square of a set of 64 truth values is on the board
pub member-inside : (set : List Bool) (s : ℕ) → length set ≡ 64 → is_in set s ≡ true → s < 64
member-inside set s size member = elim (cases_lt s 64) [
  | inl inside ↦ inside
  | inr past ↦ absurd (both_ways _ (get_or_past set s false (omega arith)) member)
]
