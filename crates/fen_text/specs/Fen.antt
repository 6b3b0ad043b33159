-- FEN, as section 16.1 of the PGN standard describes it: four fields, and two numbers or none, with one space between two.
use Rattle.std.specs.Prelude.{ℕ, zero, suc, ◌+◌, ◌-◌, ◌*◌, Bool, true, false, cond, ◌&&◌, ◌==◌, not, nat_le, List, [], ◌∷◌, ◌++◌, length, map, slice_index_or, Option, Some, None}
use Rattle.std.specs.List.{list_all, fold}
use Rattle.std.specs.Option.{option_map}
use Rattle.board_base.specs.Board.{Places, no_odds}
use Rattle.board_base.specs.Play.{double_over}
use Rattle.board_base.specs.Rights.{Rights, no_rights}
use Rattle.board_base.specs.declared.men.Colour.{Colour}
use Rattle.board_base.specs.declared.men.Colour.TheVariants.{White, Black}
use Rattle.board_base.specs.declared.moves.Move.{Move}
use Rattle.query_base.specs.Asked.{Asked}
use Rattle.fen_text.specs.Parts.{parted}
use Rattle.fen_text.specs.Ranks.{rank}
use Rattle.board_base.specs.declared.castles.Castle.{Castle}
use Rattle.board_base.specs.declared.castles.Castle.TheVariants.{WhiteShort, WhiteLong, BlackShort, BlackLong}
use Rattle.board_base.specs.Texts.{is_digit}

-- so many ranks and one more, the highest first, with a slash between two; the places from the lowest rank up
unfoldable pub ranks : ℕ → List ℕ → Option Places
ranks zero text = rank text
ranks (suc n) text = parted 47 rank (λ r. None) (λ r below. option_map (λ places. places ++ r) (ranks n below)) text

-- eight ranks
unfoldable pub placement : List ℕ → Option Places
placement text = ranks 7 text

-- w or b
abbrev pub turn : List ℕ → Option Colour
turn [] = None
turn (c ∷ []) = cond (c == 119) (Some White) (cond (c == 98) (Some Black) None)
turn (c ∷ d ∷ text) = None

-- whether the text begins with the letter, and what follows it
abbrev pub mark : ℕ → List ℕ → Bool × List ℕ
mark letter [] = (false, [])
mark letter (b ∷ text) = cond (b == letter) (true, text) (false, b ∷ text)

-- Section 16.1.3.3: the letter of a castling, K, Q, k or q
abbrev pub castle_letter : Castle → ℕ
castle_letter WhiteShort = 75
castle_letter WhiteLong = 81
castle_letter BlackShort = 107
castle_letter BlackLong = 113

-- K, Q, k and q
abbrev pub castle_letters : List ℕ
castle_letters = map castle_letter (WhiteShort ∷ WhiteLong ∷ BlackShort ∷ BlackLong ∷ [])

-- which of the letters begin the text, each at most once and in their order, and what follows them
abbrev pub marks : List ℕ → List ℕ → List Bool × List ℕ
marks [] text = ([], text)
marks (l ∷ letters) text = let m : Bool × List ℕ = mark l text in let ms : List Bool × List ℕ = marks letters m.1 in (m.0 ∷ ms.0, ms.1)

-- the letter with this number, from 0, was given
abbrev pub is_given : List Bool → ℕ → Bool
is_given given n = slice_index_or given n false

-- the castlings whose letters were given
abbrev pub rights_of : List Bool → Rights
rights_of given = record { white_short = is_given given 0; white_long = is_given given 1; black_short = is_given given 2; black_long = is_given given 3 }

-- the text has no byte
abbrev pub is_nothing : List ℕ → Bool
is_nothing [] = true
is_nothing (b ∷ text) = false

-- the text is a dash
abbrev pub is_dash : List ℕ → Bool
is_dash [] = false
is_dash (b ∷ text) = (b == 45) && is_nothing text

-- a dash, or one or more of K, Q, k and q, in this order and each at most once
unfoldable pub rights : List ℕ → Option Rights
rights text =
    let ms : List Bool × List ℕ = marks castle_letters text
    in cond (is_dash text) (Some no_rights) (cond (not (is_nothing text) && is_nothing ms.1) (Some (rights_of ms.0)) None)

-- the rank, as its digit, on which a capture en passant by this colour ends
abbrev pub en_passant_digit : Colour → ℕ
en_passant_digit White = 54
en_passant_digit Black = 51

-- the square of this file, from 0 for a, that a double step of the other side crosses
abbrev pub crossed_on : Colour → ℕ → ℕ
crossed_on White f = 40 + f
crossed_on Black f = 16 + f

-- the double step of the other side on this file, from 0 for a
abbrev pub double_on : Colour → ℕ → Move
double_on c f = double_over (crossed_on c f) c

-- a dash, or the square that a double step of the other side crossed
abbrev pub en_passant : Colour → List ℕ → Option (Option Move)
en_passant c [] = None
en_passant c (b ∷ []) = cond (b == 45) (Some None) None
en_passant c (f ∷ r ∷ []) = cond (nat_le 97 f && nat_le f 104 && (r == en_passant_digit c)) (Some (Some (double_on c (f - 97)))) None
en_passant c (f ∷ r ∷ b ∷ text) = None

-- the number that the digits stand for
abbrev pub value : List ℕ → ℕ
value text = fold (λ n d. 10 * n + (d - 48)) 0 text

-- one to nine decimal digits
unfoldable pub number : List ℕ → Option ℕ
number text = cond (nat_le 1 (length text) && nat_le (length text) 9 && list_all is_digit text) (Some (value text)) None

-- a query, and the two numbers where they are given
abbrev pub Position : Type 0
Position = Asked × Option (ℕ × ℕ)

-- what four fields ask for, of games that begin from the whole array; no move is barred, and no clock is demanded
abbrev pub asked : Places → Colour → Rights → Option Move → Asked
asked b t r e = record { board = b; turn = t; odds = no_odds; held = r; only = e; barred = None; clock = None }

-- From a field on: fields five and six, or none; fields four to six; fields three to six; fields two to six.
unfoldable pub from_numbers : Asked → List ℕ → Option Position
from_numbers q text = parted 32 number (λ h. None) (λ h last. option_map (λ f. (q, Some (h, f))) (number last)) text

-- behind the rights: the en passant field, and the numbers behind it, if there are any
unfoldable pub from_en_passant : Places → Colour → Rights → List ℕ → Option Position
from_en_passant b t r text = parted 32 (en_passant t) (λ e. Some (asked b t r e, None)) (λ e. from_numbers (asked b t r e)) text

-- behind the side to move: the rights, and what follows them
unfoldable pub from_rights : Places → Colour → List ℕ → Option Position
from_rights b t text = parted 32 rights (λ r. None) (from_en_passant b t) text

-- behind the placement: the side to move, and what follows it
unfoldable pub from_turn : Places → List ℕ → Option Position
from_turn b text = parted 32 turn (λ t. None) (from_rights b) text

-- four fields, or six
unfoldable pub fen : List ℕ → Option Position
fen text = parted 32 placement (λ b. None) from_turn text

-- the query, if no numbers come with it
abbrev pub unnumbered : Option Position → Option Asked
unnumbered None = None
unnumbered (Some (q, None)) = Some q
unnumbered (Some (q, Some numbers)) = None

-- exactly four fields
unfoldable pub fen_of_four : List ℕ → Option Asked
fen_of_four text = unnumbered (fen text)
