-- Inner: no public clause cites this file.
-- Hexadecimal digits, as they are written from the last on.
use Rattle.std.specs.Prelude.{ℕ, zero, suc, ◌+◌, ◌/◌, ◌%◌, cond, nat_lt, List, ◌∷◌}

-- the digit of a number below 16
abbrev pub hex_digit : ℕ → ℕ
hex_digit d = cond (nat_lt d 10) (d + 48) (d + 87)

-- the last k hexadecimal digits of n, and the text behind them
abbrev pub hex_onto : ℕ → ℕ → List ℕ → List ℕ
hex_onto zero n text = text
hex_onto (suc k) n text = hex_onto k (n / 16) (hex_digit (n % 16) ∷ text)
