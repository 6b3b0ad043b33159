-- Bits of two sets of squares together.
use Rattle.std.proofs.Common.{◌≡◌, ℕ, ◌<◌, ◌==◌, ◌||◌, max, ap, ◌∙◌, arith}
use Rattle.std.proofs.lemmas.Nat.Bits.{bit_at-lt, bit_at_or}
use Rattle.std.specs.Prelude.{bit_or}
use Rattle.std.specs.Int.{bit_at}

most-one : (x y : ℕ) → x < 2 → y < 2 → (max x y == 1) ≡ ((x == 1) || (y == 1))
most-one x y small low = grind arith

pub either-bit : (a b s : ℕ) → (bit_at (bit_or a b) s == 1) ≡ ((bit_at a s == 1) || (bit_at b s == 1))
either-bit a b s = ap (λ (n : ℕ). n == 1) (bit_at_or a b s) ∙ most-one (bit_at a s) (bit_at b s) (bit_at-lt a s) (bit_at-lt b s)
