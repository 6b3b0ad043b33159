-- Sets of squares: lists of 64 truth values, a1 first, then b1, up to h8.
use Rattle.std.specs.Prelude.{ℕ, ◌+◌, ◌*◌, ◌==◌, Bool, cond, List, [], ◌∷◌, map}
use Rattle.std.specs.List.{range_with_len}
use Rattle.std.specs.Int.{bit_at}

-- the set of each square s whose bit s is 1
unfoldable pub squares_of : ℕ → List Bool
squares_of bits = map (λ s. bit_at bits s == 1) (range_with_len 0 64)

-- the number whose bits are the truth values of a set: the sum of 2 ^ s over its squares s
unfoldable pub number_of : List Bool → ℕ
number_of [] = 0
number_of (member ∷ set) = cond member 1 0 + 2 * number_of set
