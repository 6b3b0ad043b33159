-- Two men who give check at once, which no move explains.
use Rattle.std.specs.Prelude.{ℕ, ◌+◌, ◌-◌, Bool, cond, ◌||◌, Option, Some, None}
use Rattle.std.specs.List.{filter, find, list_all, range_with_len}
use Rattle.board_base.specs.declared.unmoves.Unmove.{Unmove}
use Rattle.query_base.specs.Asked.{Asked}
use Rattle.unmove_gen.specs.Listed.{mover, unmoves_to}
use Rattle.retraction_bars.specs.Bars.{bars, gives_check}
use Rattle.retraction_bars.specs.Ways.{is_way}
use Rattle.retraction_bars.specs.declared.bars.Bar.TheVariants.{Check, Occupied, Itself}
use Rattle.retraction_bars.specs.declared.pairs.Pair.{Pair}

-- one of four things bars the retraction: its origin is occupied, from there the man attacked the king, or one of two others gave check
abbrev pub bars_twice : Asked → ℕ → ℕ → Unmove → Bool
bars_twice q a b u = bars Occupied q u || bars Itself q u || bars (Check a) q u || bars (Check b) q u

-- it bars all ways to a square
abbrev pub is_twice_at : Asked → ℕ → ℕ → ℕ → Bool
is_twice_at q a b t = list_all (bars_twice q a b) (filter (is_way q) (unmoves_to t))

-- it bars all ways
unfoldable pub is_twice : Asked → ℕ → ℕ → Bool
is_twice q a b = list_all (is_twice_at q a b) (range_with_len 0 64)

-- the first square, from this one on, from which a man of the side that moved gives check
unfoldable pub checker_from : Asked → ℕ → Option ℕ
checker_from q low = find (gives_check q.board (mover q)) (range_with_len low (64 - low))

-- the two, where it bars all ways
abbrev pub pair_if : Bool → ℕ → ℕ → Option Pair
pair_if twice a b = cond twice (Some (record { first = a; second = b })) None

-- this man and the other, if there is one
abbrev pub pair_with : Asked → ℕ → Option ℕ → Option Pair
pair_with q a None = None
pair_with q a (Some b) = pair_if (is_twice q a b) a b

-- this man, if there is one, and the next who gives check
abbrev pub pair_from : Asked → Option ℕ → Option Pair
pair_from q None = None
pair_from q (Some a) = pair_with q a (checker_from q (a + 1))

-- the first two men who give check, if with them one of the four things bars every way
unfoldable pub pair_of : Asked → Option Pair
pair_of q = pair_from q (checker_from q 0)
