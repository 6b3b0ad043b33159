-- Sets of squares as sixteen hexadecimal digits: of the number whose bit s is 1 for each square s of the set.
use Rattle.std.specs.Prelude.{ℕ, ◌+◌, ◌-◌, ◌*◌, ◌/◌, ◌%◌, ◌^◌, Bool, cond, ◌&&◌, ◌||◌, ◌==◌, nat_le, List, [], ◌∷◌, codes, length, map, reverse, slice_index_or, Option, Some, None}
use Rattle.std.specs.List.{list_all, range_with_len}
use Rattle.board_base.specs.Squares.{number_of, squares_of}
use Rattle.board_base.specs.Texts.{is_digit}

-- a hexadecimal digit, with a letter in lower case
abbrev pub is_hex : ℕ → Bool
is_hex b = is_digit b || (nat_le 97 b && nat_le b 102)

-- what it stands for
abbrev pub hex_value : ℕ → ℕ
hex_value b = cond (is_digit b) (b - 48) (b - 87)

-- what hexadecimal digits behind those of n stand for
abbrev pub hex_from : ℕ → List ℕ → ℕ
hex_from n [] = n
hex_from n (b ∷ text) = hex_from (16 * n + hex_value b) text

-- sixteen hexadecimal digits
abbrev pub is_set : List ℕ → Bool
is_set text = (length text == 16) && list_all is_hex text

-- the set of each square s whose bit s is 1 in the number that the text stands for
unfoldable pub set_of : List ℕ → Option (List Bool)
set_of text = cond (is_set text) (Some (squares_of (hex_from 0 text))) None

-- the one text of a set: these digits, the highest first
unfoldable pub set_text : List Bool → List ℕ
set_text set = map (λ k. slice_index_or (codes "0123456789abcdef") (number_of set / 16 ^ k % 16) 48) (reverse (range_with_len 0 16))

-- what is known of each set of squares: it has 64 truth values
abbrev pub is_whole : List Bool → Bool
is_whole set = length set == 64
