-- What captures cost, in words.
use Rattle.std.specs.Prelude.{ℕ, ◌+◌, ◌*◌, ◌==◌, cond, List, [], ◌∷◌, ◌++◌, codes, drop, length, slice_index}
use Rattle.std.specs.List.{flat_map, range_with_len}
use Rattle.std.specs.Fmt.{decimal}
use Rattle.board_base.specs.Texts.{square_text}
use Rattle.capture_prices.specs.Prices.{PriceList, all_gates}
use Rattle.capture_prices.specs.declared.prices.Gate.{Gate}

-- nothing if there is no list, else the list with what stands around it
abbrev pub around : List ℕ → List ℕ → List ℕ → List ℕ
around front [] back = []
around front (x ∷ list) back = front ++ (x ∷ list) ++ back

-- what a capture costs on the squares of a file of one shade: of the dark ones, 0, or the light ones, 1
abbrev pub price_at : List ℕ → ℕ → ℕ → ℕ
price_at prices shade f = slice_index prices (2 * f + shade)

-- a file after a space, where this is its price
abbrev pub file_if : List ℕ → ℕ → ℕ → ℕ → List ℕ
file_if prices shade price f = cond (price_at prices shade f == price) (32 ∷ (97 + f) ∷ []) []

-- the files with this price
unfoldable pub files_words : List ℕ → ℕ → ℕ → List ℕ
files_words prices shade price = flat_map (file_if prices shade price) (range_with_len 0 8)

-- what stands before the files with a price
abbrev pub price_words : ℕ → List ℕ
price_words price = codes ", " ++ decimal price ++ codes " on"

-- after a comma, a price that isn't the usual one, with its files, as in `, 22 on b c`
abbrev pub item_words : ℕ → List ℕ → ℕ → ℕ → List ℕ
item_words usual prices shade price =
    cond (price == usual) [] (around (price_words price) (files_words prices shade price) [])

-- the prices on the squares of a shade that aren't the usual one, ascending
unfoldable pub shade_words : ℕ → List ℕ → ℕ → List ℕ
shade_words usual prices shade = flat_map (item_words usual prices shade) (range_with_len 0 97)

-- what stands before the prices on light squares, behind those on dark ones
abbrev pub light_front : List ℕ → List ℕ
light_front dark = cond (length dark == 0) (codes "on light squares") (codes "; on light squares")

-- both, each without its first comma
abbrev pub shades_words : List ℕ → List ℕ → List ℕ
shades_words dark light = around (codes "on dark squares") (drop 1 dark) [] ++ around (light_front dark) (drop 1 light) []

-- what a side's pawns pay for a capture: a number, and then the prices that differ from it
abbrev pub prices_words : ℕ → List ℕ → List ℕ
prices_words usual prices =
    codes " " ++ decimal usual ++ around (codes " (") (shades_words (shade_words usual prices 0) (shade_words usual prices 1)) (codes ")")

-- the toll of a gate, after a comma
abbrev pub gate_words : Gate → List ℕ
gate_words g = codes ", " ++ decimal g.toll ++ codes " on " ++ square_text g.square

-- what is paid at gates with these tolls at most
abbrev pub gates_end : ℕ → List ℕ
gates_end most =
    codes ". Of the two pawns that began on a file at most one paid for a square, or they would have passed each other: all pay at most " ++ decimal most ++ codes " for squares. "

-- the tolls of all gates, who pays them, and what they are together
abbrev pub gates_words : List Gate → ℕ → List ℕ
gates_words gates most =
    around (codes "A pawn that neither captured nor was taken as a pawn pays for each of these squares that it stood on or crossed:") (drop 1 (flat_map gate_words gates)) (gates_end most)

-- what captures cost; what a side usually pays is what it pays on the light squares of file h
abbrev pub priced_words : PriceList → List ℕ
priced_words p =
    codes "Let a capture by a white pawn cost" ++ prices_words (slice_index p.white 15) p.white ++ codes ", and one by a black pawn" ++ prices_words (slice_index p.black 15) p.black ++ codes ": the side that captures pays it, and the man who is taken earns it. " ++ gates_words p.gates (all_gates p)
