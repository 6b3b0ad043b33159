-- Numbers of one to six decimal digits with no leading zero.
use Rattle.std.specs.Prelude.{ℕ, Bool, cond, ◌&&◌, ◌||◌, ◌==◌, not, nat_le, List, length, slice_index, Option, Some, None}
use Rattle.std.specs.List.{list_all}
use Rattle.board_base.specs.Texts.{is_digit}
use Rattle.fen_text.specs.Fen.{value}

-- the first digit is 0 only if there is no other
abbrev pub is_plain : List ℕ → Bool
is_plain text = (length text == 1) || not (slice_index text 0 == 48)

-- one to six decimal digits, with no leading zero
abbrev pub is_number : List ℕ → Bool
is_number text = nat_le 1 (length text) && nat_le (length text) 6 && is_plain text && list_all is_digit text

-- the number, from 0 to 999999, that a text stands for
unfoldable pub number : List ℕ → Option ℕ
number text = cond (is_number text) (Some (value text)) None
