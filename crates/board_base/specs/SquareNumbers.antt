-- Inner: no public clause cites this file.
-- Sets of squares and the numbers whose bits they are.
use Rattle.std.proofs.Common.{◌≡◌, ℕ, zero, suc, ◌+◌, ◌*◌, ◌/◌, ◌^◌, ◌<◌, ◌==◌, Bool, true, false, cond, List, [], ◌∷◌, length, refl, ap, ◌∙◌, arith}
use Rattle.std.proofs.Math.Nat.{pow-suc}
use Rattle.std.proofs.lemmas.List.FromFn.{length-map-range_with_len, get_or-map-range_with_len}
use Rattle.std.proofs.lemmas.Nat.Bits.{bit_at_lowest, bit_at-suc, bit_at-zero, bit_at-lt, same_from_bits_below}
use Rattle.std.specs.Int.{bit_at}
use Rattle.board_base.specs.Board.{is_in}
use Rattle.board_base.specs.Squares.{squares_of, number_of}

pub length-squares_of : (bits : ℕ) → length (squares_of bits) ≡ 64
unfolding squares_of
length-squares_of bits = length-map-range_with_len (λ s. bit_at bits s == 1) 0 64

-- square s is in the set if and only if bit s is 1
pub is_in-squares_of : (bits s : ℕ) → s < 64 → is_in (squares_of bits) s ≡ (bit_at bits s == 1)
unfolding squares_of
is_in-squares_of bits s below = get_or-map-range_with_len (λ s. bit_at bits s == 1) 0 64 s s false below (let e : 0 + s ≡ s = omega arith in e)

pub number_of-lt : (set : List Bool) → number_of set < 2 ^ length set
unfolding number_of
number_of-lt [] = omega arith
number_of-lt (true ∷ set) = omega (arith, number_of-lt set, pow-suc 2 (length set))
number_of-lt (false ∷ set) = omega (arith, number_of-lt set, pow-suc 2 (length set))

bit_at-number_of : (set : List Bool) (s : ℕ) → bit_at (number_of set) s ≡ cond (is_in set s) 1 0
unfolding number_of
bit_at-number_of [] s = bit_at-zero s
bit_at-number_of (true ∷ set) zero = omega (arith, bit_at_lowest (1 + 2 * number_of set))
bit_at-number_of (false ∷ set) zero = omega (arith, bit_at_lowest (0 + 2 * number_of set))
bit_at-number_of (true ∷ set) (suc s) =
    let half : (1 + 2 * number_of set) / 2 ≡ number_of set = omega arith in
    bit_at-suc (1 + 2 * number_of set) s ∙ ap (λ n. bit_at n s) half ∙ bit_at-number_of set s
bit_at-number_of (false ∷ set) (suc s) =
    let half : (0 + 2 * number_of set) / 2 ≡ number_of set = omega arith in
    bit_at-suc (0 + 2 * number_of set) s ∙ ap (λ n. bit_at n s) half ∙ bit_at-number_of set s

bit_as_number : (b : ℕ) → b < 2 → cond (b == 1) 1 0 ≡ b
bit_as_number zero below = refl
bit_as_number (suc zero) below = refl
bit_as_number (suc (suc b)) below = absurd (omega arith)

-- the set of a number gives the number back
pub number_of-squares_of : (bits : ℕ) → bits < 2 ^ 64 → number_of (squares_of bits) ≡ bits
number_of-squares_of bits fits =
    let low : number_of (squares_of bits) < 2 ^ 64 = rw length-squares_of at (number_of-lt (squares_of bits)) in
    same_from_bits_below 64 _ _ low fits (λ s below. bit_at-number_of (squares_of bits) s ∙ ap (λ (b : Bool). cond b 1 0) (is_in-squares_of bits s below) ∙ bit_as_number (bit_at bits s) (bit_at-lt bits s))
