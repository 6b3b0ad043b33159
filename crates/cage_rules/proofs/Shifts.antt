-- Sets of squares whose numbers are shifted: all their squares go the same way, and those that would leave the board are dropped.
use Rattle.std.proofs.Common.{◌≡◌, ℕ, ◌+◌, ◌-◌, ◌*◌, ◌/◌, ◌%◌, ◌^◌, ◌<◌, ◌≤◌, ◌==◌, inl, inr, Bool, true, false, ◌&&◌, refl, ap, sym, ◌∙◌, arith, bit_and}
use Rattle.std.proofs.Math.Nat.{div-div-eq-div-mul}
use Rattle.std.proofs.lemmas.Nat.{pow-add, pow_pos}
use Rattle.std.proofs.lemmas.Bool.{agree_below, agree_below_at, and_left, and_right, cases_lt, le-leb, leb-true, lt-leb, lt-ltb, le-ltb, ltb-true}
use Rattle.std.proofs.lemmas.Nat.Bits.{bit_at_above, bit_at_cat_low, bit_at_cat_high, bit_at-zero}
use Rattle.std.specs.Prelude.{nat_le, nat_lt}
use Rattle.std.specs.Int.{bit_at}
use Rattle.board_base.specs.Board.{file, is_in}
use Rattle.board_base.specs.Squares.{squares_of}
use Rattle.board_base.specs.SquareNumbers.{is_in-squares_of, length-squares_of}
use Rattle.cage_rules.specs.SetSteps.{down, left, right, up}
use Rattle.cage_rules.proofs.SetAlgebra.{bit-and, that-is}

-- the bits of a number that is shifted to the left, and to the right
pub shifted-left : (n k s : ℕ) → k ≤ s → s < 64 → bit_at (n * 2 ^ k % 2 ^ 64) s ≡ bit_at n (s - k)
shifted-left n k s low high =
    let m : ℕ = n * 2 ^ k in
    let whole : m / 2 ^ 64 * 2 ^ 64 + m % 2 ^ 64 ≡ m + 0 = omega arith in
    sym (bit_at_cat_low (m / 2 ^ 64) 64 (m % 2 ^ 64) s high) ∙ ap (λ (x : ℕ). bit_at x s) whole ∙ bit_at_cat_high n k 0 s (pow_pos k) low

pub shifted-right : (n k s : ℕ) → bit_at (n / 2 ^ k) s ≡ bit_at n (s + k)
shifted-right n k s =
    let sum : k + s ≡ s + k = omega arith in
    ap (λ (x : ℕ). x % 2) (div-div-eq-div-mul n (2 ^ k) (2 ^ s) ∙ ap (λ (x : ℕ). n / x) (sym (pow-add 2 k s) ∙ ap (λ (x : ℕ). 2 ^ x) sum))

-- the masks: the squares that are so many files from the first, and from the last
abbrev right-mask : ℕ → ℕ
right-mask n = 72340172838076673 * (256 - 1 * 2 ^ n % 2 ^ 64)

abbrev left-mask : ℕ → ℕ
left-mask n = 72340172838076673 * (255 / 2 ^ n)

right-masked : (n s : ℕ) → n < 8 → s < 64 → (bit_at (right-mask n) s == 1) ≡ nat_le n (file s)
right-masked n s few inside =
    agree_below_at (λ i. bit_at (right-mask n) i == 1) (λ i. nat_le n (file i)) 64 s
    (agree_below_at (λ k. agree_below (λ i. bit_at (right-mask k) i == 1) (λ i. nat_le k (file i)) 64) (λ k. true) 8 n refl few) inside

left-masked : (n s : ℕ) → n < 8 → s < 64 → (bit_at (left-mask n) s == 1) ≡ nat_lt (file s + n) 8
left-masked n s few inside =
    agree_below_at (λ i. bit_at (left-mask n) i == 1) (λ i. nat_lt (file i + n) 8) 64 s
    (agree_below_at (λ k. agree_below (λ i. bit_at (left-mask k) i == 1) (λ i. nat_lt (file i + k) 8) 64) (λ k. true) 8 n refl few) inside

-- where the first of two tests decides, the second counts only there
pub guarded : (a b g c : Bool) → b ≡ g → (g ≡ true → a ≡ c) → (a && b) ≡ (g && c)
guarded true b true c e h = e ∙ h refl
guarded false b true c e h = h refl
guarded a b false c e h = and_right a b e

pub right-bits : (bits n : ℕ) → n < 8 → squares_of (bit_and (bits * 2 ^ n % 2 ^ 64) (right-mask n)) ≡ right (squares_of bits) n
unfolding right
right-bits bits n few =
    that-is (λ s. nat_le n (file s) && is_in (squares_of bits) (s - n)) (squares_of (bit_and (bits * 2 ^ n % 2 ^ 64) (right-mask n))) (length-squares_of (bit_and (bits * 2 ^ n % 2 ^ 64) (right-mask n))) (λ s inside.
    is_in-squares_of (bit_and (bits * 2 ^ n % 2 ^ 64) (right-mask n)) s inside
    ∙ bit-and (bits * 2 ^ n % 2 ^ 64) (right-mask n) s
    ∙ guarded (bit_at (bits * 2 ^ n % 2 ^ 64) s == 1) (bit_at (right-mask n) s == 1) (nat_le n (file s)) (is_in (squares_of bits) (s - n)) (right-masked n s few inside) (λ far.
    let low : n ≤ file s = leb-true n (file s) far in
    ap (λ (b : ℕ). b == 1) (shifted-left bits n s (omega arith) inside) ∙ sym (is_in-squares_of bits (s - n) (omega arith))))

pub left-bits : (bits n : ℕ) → n < 8 → squares_of (bit_and (bits / 2 ^ n) (left-mask n)) ≡ left (squares_of bits) n
unfolding left
left-bits bits n few =
    that-is (λ s. nat_lt (file s + n) 8 && is_in (squares_of bits) (s + n)) (squares_of (bit_and (bits / 2 ^ n) (left-mask n))) (length-squares_of (bit_and (bits / 2 ^ n) (left-mask n))) (λ s inside.
    is_in-squares_of (bit_and (bits / 2 ^ n) (left-mask n)) s inside
    ∙ bit-and (bits / 2 ^ n) (left-mask n) s
    ∙ guarded (bit_at (bits / 2 ^ n) s == 1) (bit_at (left-mask n) s == 1) (nat_lt (file s + n) 8) (is_in (squares_of bits) (s + n)) (left-masked n s few inside) (λ far.
    let low : file s + n < 8 = ltb-true (file s + n) 8 far in
    ap (λ (b : ℕ). b == 1) (shifted-right bits n s) ∙ sym (is_in-squares_of bits (s + n) (omega arith))))

below-shift : (bits k s : ℕ) → s < k → s < 64 → (bit_at (bits * 2 ^ k % 2 ^ 64) s == 1) ≡ false
below-shift bits k s low high =
    let m : ℕ = bits * 2 ^ k in
    let whole : m / 2 ^ 64 * 2 ^ 64 + m % 2 ^ 64 ≡ m + 0 = omega arith in
    ap (λ (b : ℕ). b == 1) (sym (bit_at_cat_low (m / 2 ^ 64) 64 (m % 2 ^ 64) s high) ∙ ap (λ (x : ℕ). bit_at x s) whole ∙ bit_at_cat_low bits k 0 s low ∙ bit_at-zero s)

pub up-bits : (bits n : ℕ) → n < 8 → squares_of (bits * 2 ^ (8 * n) % 2 ^ 64) ≡ up (squares_of bits) n
unfolding up
up-bits bits n few =
    that-is (λ s. nat_le (8 * n) s && is_in (squares_of bits) (s - 8 * n)) (squares_of (bits * 2 ^ (8 * n) % 2 ^ 64)) (length-squares_of (bits * 2 ^ (8 * n) % 2 ^ 64)) (λ s inside.
    is_in-squares_of (bits * 2 ^ (8 * n) % 2 ^ 64) s inside
    ∙ elim (cases_lt s (8 * n)) [
      | inl low ↦ below-shift bits (8 * n) s low inside ∙ sym (and_left (nat_le (8 * n) s) (is_in (squares_of bits) (s - 8 * n)) (lt-leb (8 * n) s low))
      | inr high ↦
          ap (λ (b : ℕ). b == 1) (shifted-left bits (8 * n) s high inside) ∙ sym (is_in-squares_of bits (s - 8 * n) (omega arith))
          ∙ sym (ap (λ (x : Bool). x && is_in (squares_of bits) (s - 8 * n)) (le-leb (8 * n) s high))
    ])

pub down-bits : (bits n : ℕ) → bits < 2 ^ 64 → squares_of (bits / 2 ^ (8 * n)) ≡ down (squares_of bits) n
unfolding down
down-bits bits n fits =
    that-is (λ s. nat_lt (s + 8 * n) 64 && is_in (squares_of bits) (s + 8 * n)) (squares_of (bits / 2 ^ (8 * n))) (length-squares_of (bits / 2 ^ (8 * n))) (λ s inside.
    is_in-squares_of (bits / 2 ^ (8 * n)) s inside
    ∙ ap (λ (b : ℕ). b == 1) (shifted-right bits (8 * n) s)
    ∙ elim (cases_lt (s + 8 * n) 64) [
      | inl on ↦ sym (is_in-squares_of bits (s + 8 * n) on) ∙ sym (ap (λ (x : Bool). x && is_in (squares_of bits) (s + 8 * n)) (lt-ltb (s + 8 * n) 64 on))
      | inr past ↦ ap (λ (b : ℕ). b == 1) (bit_at_above bits 64 (s + 8 * n) fits past) ∙ sym (and_left (nat_lt (s + 8 * n) 64) (is_in (squares_of bits) (s + 8 * n)) (le-ltb (s + 8 * n) 64 past))
    ])
