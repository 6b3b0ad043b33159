-- Texts that are told to a user.
use Rattle.std.specs.Prelude.{ℕ, Bool, ◌&&◌, nat_le, List, length}
use Rattle.std.specs.List.{list_all}

-- the character is one of ASCII that is seen in its place, or a space
abbrev pub is_printed : ℕ → Bool
is_printed c = nat_le 32 c && nat_le c 126

-- the text is one line without its end: it isn't empty, has at most 240 characters, and each is printed
abbrev pub is_one_line : List ℕ → Bool
is_one_line text = nat_le 1 (length text) && nat_le (length text) 240 && list_all is_printed text
