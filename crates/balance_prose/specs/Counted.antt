-- Prices that are told by what is counted.
use Rattle.std.specs.Prelude.{ℕ, ◌+◌, ◌*◌, ◌==◌, Bool, cond, ◌&&◌, ◌||◌, max, nat_le, nat_lt, List, [], length, map, slice_index}
use Rattle.std.specs.List.{Contains, list_all, list_any, range_with_len}
use Rattle.board_base.specs.Board.{file}
use Rattle.board_base.specs.Game.{IsGame}
use Rattle.board_base.specs.declared.men.Colour.TheVariants.{White, Black}
use Rattle.board_base.specs.declared.moves.Move.{Move}
use Rattle.capture_prices.specs.Prices.{PriceList, priced}
use Rattle.men_ledger.specs.Files.{trodden}

-- what a capture costs on the squares of a file of one shade: of the dark ones, 0, or the light ones, 1
abbrev pub price_on : List ℕ → ℕ → ℕ → ℕ
price_on takes shade f = slice_index takes (2 * f + shade)

-- captures on some squares of this shade cost something
unfoldable pub is_shade_counted : List ℕ → ℕ → Bool
is_shade_counted takes shade = list_any (λ f. nat_lt 0 (price_on takes shade f)) (range_with_len 0 8)

-- captures on some squares do
abbrev pub is_counted : List ℕ → Bool
is_counted takes = is_shade_counted takes 0 || is_shade_counted takes 1

-- how often a capture on a file counts, on the shade on which it counts more often
abbrev pub times_on : List ℕ → ℕ → ℕ
times_on takes f = max (price_on takes 0 f) (price_on takes 1 f)

-- on the squares of a file captures count not at all, once or twice, and on both shades alike, but for a shade on which none counts
abbrev pub is_file_plain : List ℕ → ℕ → Bool
is_file_plain takes f =
    nat_le (times_on takes f) 2 && (price_on takes 0 f == cond (is_shade_counted takes 0) (times_on takes f) 0) && (price_on takes 1 f == cond (is_shade_counted takes 1) (times_on takes f) 0)

-- so on each file
unfoldable pub is_side_plain : List ℕ → Bool
is_side_plain takes = list_all (is_file_plain takes) (range_with_len 0 8)

-- Prices are plain if captures count not at all, once or twice, by whole files of one shade or of both, and those of some side count.
abbrev pub is_plain : PriceList → Bool
is_plain p = is_side_plain p.white && is_side_plain p.black && (is_counted p.white || is_counted p.black)

-- what captures cost that cost something where all cost the same, as the search for prices gives it
abbrev pub flat : ℕ
flat = 24

-- the price is nothing or that
abbrev pub is_flat : ℕ → Bool
is_flat x = (x == 0) || (x == flat)

-- each capture that costs something costs the same, and there are no gates
abbrev pub are_flat : PriceList → Bool
are_flat p = list_all is_flat p.white && list_all is_flat p.black && (length p.gates == 0)

-- once for what costs that much
abbrev pub once : ℕ → ℕ
once x = cond (x == 0) 0 1

-- the prices at which a balance is told: 1 in the place of a price that is all that there is
abbrev pub lowered : PriceList → PriceList
lowered p = cond (are_flat p) (priced (map once p.white) (map once p.black) []) p

-- In no game from the array without the men on the squares of o do the pawns of both sides who began on the file of s tread s and keep to
-- their file: neither of them captures, and none is taken as a pawn.
abbrev pub OneTreads : List Bool → ℕ → Type 0
OneTreads o s =
    (g : List Move) → IsGame o g → Contains (trodden o g White (8 + file s)) s → Contains (trodden o g Black (48 + file s)) s → ⊥
