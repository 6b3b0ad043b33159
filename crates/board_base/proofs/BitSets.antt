-- Sets of squares kept as the bits of a number.
use Rattle.std.proofs.Common.{◌≡◌, ℕ, ◌+◌, ◌-◌, ◌*◌, ◌/◌, ◌%◌, ◌^◌, ◌<◌, ◌≤◌, ◌==◌, Bool, true, false, List, length, get_or-set_same, get_or-set_other, length-set, sym, ap, ◌∙◌, arith, inl, inr, bit_or, shr-shr}
use Rattle.std.proofs.lemmas.Bool.{cases_eq, cases_lt}
use Rattle.std.proofs.lemmas.List.{ext_get_or}
use Rattle.std.proofs.lemmas.Nat.{shr_le}
use Rattle.std.proofs.lemmas.Nat.Bits.{bit_at-trailing_zeros, bit_at-zero, bit_at_above, bit_at_set_same, bit_at_set_other, bit_at_clear_same, bit_at_clear_other}
use Rattle.std.specs.Int.{bit_at, bit_not, trailing_zeros, w64}
use Rattle.std.specs.Prelude.{bit_and, slice_set}
use Rattle.board_base.specs.Board.{is_in}
use Rattle.board_base.specs.Squares.{squares_of}
use Rattle.board_base.specs.SquareNumbers.{length-squares_of, is_in-squares_of}

-- `bits | 1 << s` adds square s
pub squares_of-or : (bits s : ℕ) → s < 64 → squares_of (bit_or bits (1 * 2 ^ s % 2 ^ 64)) ≡ slice_set (squares_of bits) s true
squares_of-or bits s below =
    let more : ℕ = bit_or bits (1 * 2 ^ s % 2 ^ 64) in
    let size : length (squares_of bits) ≡ 64 = length-squares_of bits in
    let inside : s < length (squares_of bits) = omega arith in
    ext_get_or false _ _ (length-squares_of more ∙ sym (length-set (squares_of bits) s true ∙ size)) (λ i low.
    let i_low : i < 64 = omega (arith, length-squares_of more) in
    is_in-squares_of more i i_low ∙ elim (cases_eq i s) [
      | inl same ↦
          ap (λ (b : ℕ). b == 1) (ap (bit_at more) same ∙ bit_at_set_same w64 bits s below)
          ∙ sym (ap (is_in (slice_set (squares_of bits) s true)) same ∙ get_or-set_same (squares_of bits) s true false inside)
      | inr other ↦
          ap (λ (b : ℕ). b == 1) (bit_at_set_other w64 bits s below i other)
          ∙ sym (get_or-set_other (squares_of bits) s i true false other ∙ is_in-squares_of bits i i_low)
    ])

-- `bits & !(1 << s)` takes square s out
pub squares_of-clear : (bits s : ℕ) → s < 64 → squares_of (bit_and bits (bit_not w64 (1 * 2 ^ s % 2 ^ 64))) ≡ slice_set (squares_of bits) s false
squares_of-clear bits s below =
    let fewer : ℕ = bit_and bits (bit_not w64 (1 * 2 ^ s % 2 ^ 64)) in
    let size : length (squares_of bits) ≡ 64 = length-squares_of bits in
    let inside : s < length (squares_of bits) = omega arith in
    ext_get_or false _ _ (length-squares_of fewer ∙ sym (length-set (squares_of bits) s false ∙ size)) (λ i low.
    let i_low : i < 64 = omega (arith, length-squares_of fewer) in
    is_in-squares_of fewer i i_low ∙ elim (cases_eq i s) [
      | inl same ↦
          ap (λ (b : ℕ). b == 1) (ap (bit_at fewer) same ∙ bit_at_clear_same w64 bits s below)
          ∙ sym (ap (is_in (slice_set (squares_of bits) s false)) same ∙ get_or-set_same (squares_of bits) s false false inside)
      | inr other ↦
          ap (λ (b : ℕ). b == 1) (bit_at_clear_other w64 bits s below i i_low other)
          ∙ sym (get_or-set_other (squares_of bits) s i false false other ∙ is_in-squares_of bits i i_low)
    ])

-- a square is in the set of some bits where its bit is 1
pub in-bits : (set : List Bool) (bits s : ℕ) → s < 64 → squares_of bits ≡ set → (bit_at bits s == 1) ≡ is_in set s
in-bits set bits s small e = sym (is_in-squares_of bits s small) ∙ ap (λ (l : List Bool). is_in l s) e

shifted : (n k i : ℕ) → bit_at (n / 2 ^ k) i ≡ bit_at n (k + i)
shifted n k i = ap (λ (x : ℕ). x % 2) (shr-shr n k i)

-- where no bit is left after a shift, none from there on is 1
pub none-left : (bits start s : ℕ) → bits / 2 ^ start ≡ 0 → start ≤ s → bit_at bits s ≡ 0
none-left bits start s none low =
    let e : s ≡ start + (s - start) = omega arith in
    ap (bit_at bits) e ∙ sym (shifted bits start (s - start)) ∙ ap (λ (n : ℕ). bit_at n (s - start)) none ∙ bit_at-zero (s - start)

-- the lowest bit that is left after a shift
pub record IsLowest (bits start low : ℕ) : Type 0 where
  pub inside : start + low < 64
  pub found : bit_at bits (start + low) ≡ 1
  pub none : (s : ℕ) → start ≤ s → s < start + low → bit_at bits s ≡ 0

pub lowest-left : (bits start : ℕ) → bits < 2 ^ 64 → 0 < bits / 2 ^ start → IsLowest bits start (trailing_zeros w64 (bits / 2 ^ start))
lowest-left bits start fits some =
    let rest : ℕ = bits / 2 ^ start in
    let less : rest ≤ bits = shr_le bits start in
    let low : ℕ = trailing_zeros w64 rest in
    let t = bit_at-trailing_zeros w64 rest some (omega arith) in
    let there : bit_at bits (start + low) ≡ 1 = sym (shifted bits start low) ∙ t.1 in
    record {
      inside = elim (cases_lt (start + low) 64) [
        | inl under ↦ under
        | inr over ↦ absurd (let none : bit_at bits (start + low) ≡ 0 = bit_at_above bits 64 (start + low) fits over in omega arith)
      ];
      found = there;
      none = λ s from to.
          let e : s ≡ start + (s - start) = omega arith in
          ap (bit_at bits) e ∙ sym (shifted bits start (s - start)) ∙ t.2 (s - start) (omega arith);
    }
