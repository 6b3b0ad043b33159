-- How many rights there are after each file: one for the pawn on the a-file, and two for each other, but one for that on the h-file.
use Rattle.std.proofs.Common.{◌≡◌, ℕ, ◌+◌, ◌*◌, ◌<◌, ◌≤◌, cond, nat_lt, arith, inl, inr}
use Rattle.std.proofs.lemmas.Bool.{cases_lt, cond-true, cond-false, lt-ltb, le-ltb}

one : (a b : ℕ) → a < b → ◌≡◌ {A = ℕ} (cond (nat_lt a b) 1 0) 1
one a b low = cond-true (nat_lt a b) 1 0 (lt-ltb a b low)

none_ : (a b : ℕ) → b ≤ a → ◌≡◌ {A = ℕ} (cond (nat_lt a b) 1 0) 0
none_ a b high = cond-false (nat_lt a b) 1 0 (le-ltb a b high)

pub room : (file count : ℕ) → file < 8 → (file ≡ 0 → count ≤ 4) → (0 < file → count ≤ 3 + 2 * file) → count + cond (nat_lt 0 file) 1 0 + cond (nat_lt file 7) 1 0 ≤ 18
room file count inside first later = elim (cases_lt 0 file) [
  | inl some ↦ elim (cases_lt file 7) [
    | inl low ↦ let few = later some in omega (arith, one 0 file some, one file 7 low)
    | inr last ↦ let few = later some in omega (arith, one 0 file some, none_ file 7 last)
  ]
  | inr at_first ↦ let few = first (omega arith) in omega (arith, none_ 0 file at_first, one file 7 (omega arith))
]

pub few-more : (file old new : ℕ) → file < 8 → (file ≡ 0 → old ≤ 4) → (0 < file → old ≤ 3 + 2 * file) → new ≤ old + cond (nat_lt 0 file) 1 0 + cond (nat_lt file 7) 1 0 → new ≤ 3 + 2 * (file + 1)
few-more file old new inside first later more = elim (cases_lt 0 file) [
  | inl some ↦ elim (cases_lt file 7) [
    | inl low ↦ let few = later some in omega (arith, one 0 file some, one file 7 low)
    | inr last ↦ let few = later some in omega (arith, one 0 file some, none_ file 7 last)
  ]
  | inr at_first ↦ let few = first (omega arith) in omega (arith, none_ 0 file at_first, one file 7 (omega arith))
]
