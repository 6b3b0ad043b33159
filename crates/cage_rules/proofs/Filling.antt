-- Lists of 64 places that a loop fills from the first on.
use Rattle.std.proofs.Common.{◌≡◌, ◌≢◌, ℕ, ◌+◌, ◌<◌, ◌≤◌, ◌==◌, inl, inr, Bool, true, false, cond, List, length, get_or, set, map, refl, ap, sym, ◌∙◌, arith}
use Rattle.std.proofs.lemmas.Bool.{cases_lt, cases_eq, lt-ltb, le-ltb, cond-true, cond-false, both_ways}
use Rattle.std.proofs.lemmas.List.{ext_get_or, get_or_past, get_or-set_same, get_or-set_other, length-set}
use Rattle.std.proofs.lemmas.List.FromFn.{length-map-range_with_len, get_or-map-range_with_len}
use Rattle.std.proofs.lemmas.Nat.Bits.{bit_at-zero}
use Rattle.std.specs.Prelude.{nat_lt}
use Rattle.std.specs.List.{range_with_len}
use Rattle.board_base.specs.Board.{is_in}
use Rattle.general_lemmas.proofs.Ranges.{all_in_range}
use Rattle.board_base.specs.Squares.{squares_of}
use Rattle.board_base.specs.SquareNumbers.{length-squares_of, is_in-squares_of}
use Rattle.cage_rules.specs.Sets.{squares_that}

-- the first i places are what f tells, and the others are as at first
pub record Filled {A : Type 0} (f : ℕ → A) (none : A) (places : List A) (i : ℕ) : Type 0 where
  pub size : length places ≡ 64
  pub each : (t : ℕ) → get_or places t none ≡ cond (nat_lt t i) (f t) none

nothing-below : {A : Type 0} (t : ℕ) (x none : A) → none ≡ cond (nat_lt t 0) x none
nothing-below t x none = sym (cond-false (nat_lt t 0) x none (le-ltb t 0 (omega arith)))

pub filled-start : {A : Type 0} (f : ℕ → A) (none : A) (places : List A) → length places ≡ 64 → ((t : ℕ) → get_or places t none ≡ none) → Filled f none places 0
filled-start f none places size each = record { size = size; each = λ t. each t ∙ nothing-below t (f t) none }

same-below : {A : Type 0} (t i : ℕ) (x none : A) → t ≢ i → cond (nat_lt t i) x none ≡ cond (nat_lt t (i + 1)) x none
same-below t i x none other = elim (cases_lt t i) [
  | inl low ↦ cond-true (nat_lt t i) x none (lt-ltb t i low) ∙ sym (cond-true (nat_lt t (i + 1)) x none (lt-ltb t (i + 1) (omega arith)))
  | inr high ↦ cond-false (nat_lt t i) x none (le-ltb t i high) ∙ sym (cond-false (nat_lt t (i + 1)) x none (le-ltb t (i + 1) (omega arith)))
]

-- the next place is written
pub filled-in : {A : Type 0} (f : ℕ → A) (none : A) (places : List A) (i : ℕ) (x : A) → i < 64 → f i ≡ x → Filled f none places i → Filled f none (set places i x) (i + 1)
filled-in f none places i x inside here before =
    let size = before.size in
    record {
      size = length-set places i x ∙ size;
      each = λ t. elim (cases_eq t i) [
        | inl same ↦
            ap (λ (k : ℕ). get_or (set places i x) k none) same ∙ get_or-set_same places i x none (omega arith) ∙ sym here ∙ ap f (sym same)
            ∙ sym (cond-true (nat_lt t (i + 1)) (f t) none (lt-ltb t (i + 1) (omega arith)))
        | inr other ↦ get_or-set_other places i t x none other ∙ before.each t ∙ same-below t i (f t) none other
      ];
    }

-- the next place stays as it was
pub filled-out : {A : Type 0} (f : ℕ → A) (none : A) (places : List A) (i : ℕ) → f i ≡ none → Filled f none places i → Filled f none places (i + 1)
filled-out f none places i here before = record {
  size = before.size;
  each = λ t. elim (cases_eq t i) [
    | inl same ↦
        before.each t ∙ cond-false (nat_lt t i) (f t) none (le-ltb t i (omega arith)) ∙ sym here ∙ ap f (sym same)
        ∙ sym (cond-true (nat_lt t (i + 1)) (f t) none (lt-ltb t (i + 1) (omega arith)))
    | inr other ↦ before.each t ∙ same-below t i (f t) none other
  ];
}

pub filled-end : {A : Type 0} (f : ℕ → A) (none : A) (places : List A) (i : ℕ) → 64 ≤ i → Filled f none places i → places ≡ map f (range_with_len 0 64)
filled-end f none places i past filled =
    let size = filled.size in
    ext_get_or none places (map f (range_with_len 0 64)) (size ∙ sym (length-map-range_with_len f 0 64)) (λ t inside.
    let small : t < 64 = omega arith in
    filled.each t ∙ cond-true (nat_lt t i) (f t) none (lt-ltb t i (omega arith)) ∙ sym (get_or-map-range_with_len f 0 64 t t none small (omega arith)))

-- sets
pub none-in-zero : (t : ℕ) → is_in (squares_of 0) t ≡ false
none-in-zero t = elim (cases_lt t 64) [
  | inl inside ↦ is_in-squares_of 0 t inside ∙ ap (λ (b : ℕ). b == 1) (bit_at-zero t)
  | inr past ↦ get_or_past (squares_of 0) t false (omega (arith, length-squares_of 0))
]

pub empty-start : (p : ℕ → Bool) (set : List Bool) → set ≡ squares_of 0 → Filled p false set 0
empty-start p set e = filled-start p false set (ap length e ∙ length-squares_of 0) (λ t. ap (λ (s : List Bool). is_in s t) e ∙ none-in-zero t)

pub length-that : (p : ℕ → Bool) → length (squares_that p) ≡ 64
unfolding squares_that
length-that p = length-map-range_with_len p 0 64

pub is_in-that : (p : ℕ → Bool) (s : ℕ) → s < 64 → is_in (squares_that p) s ≡ p s
unfolding squares_that
is_in-that p s inside = get_or-map-range_with_len p 0 64 s s false inside (omega arith)

-- a square of the set is on the board, and passes the test
pub in-that : (p : ℕ → Bool) (s : ℕ) → is_in (squares_that p) s ≡ true → (s < 64) × (p s ≡ true)
in-that p s member = elim (cases_lt s 64) [
  | inl inside ↦ (inside, sym (is_in-that p s inside) ∙ member)
  | inr past ↦ absurd (both_ways _ (get_or_past (squares_that p) s false (omega (arith, length-that p))) member)
]

pub filled-that : (p : ℕ → Bool) (set : List Bool) (i : ℕ) → 64 ≤ i → Filled p false set i → set ≡ squares_that p
unfolding squares_that
filled-that p set i past filled = filled-end p false set i past filled

-- the set of all squares
pub all-in : (s : ℕ) → s < 64 → is_in (squares_of 18446744073709551615) s ≡ true
unfolding squares_of
all-in s inside = all_in_range (λ k. is_in (squares_of 18446744073709551615) k) 0 64 s refl (omega arith) (omega arith)
