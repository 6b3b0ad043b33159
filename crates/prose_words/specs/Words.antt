-- Words for sides, men, squares and numbers.
use Rattle.std.specs.Prelude.{ℕ, ◌-◌, Bool, cond, List, [], ◌∷◌, ◌++◌, codes, Option, Some, None}
use Rattle.std.specs.List.{flat_map, range_with_len}
use Rattle.board_base.specs.Texts.{letter_of, square_text}
use Rattle.board_base.specs.declared.men.Man.{Man}
use Rattle.board_base.specs.declared.men.Colour.{Colour}
use Rattle.board_base.specs.declared.men.Colour.TheVariants.{White, Black}
use Rattle.board_base.specs.declared.men.Kind.{Kind}
use Rattle.board_base.specs.declared.men.Kind.TheVariants.{Pawn, Knight, Bishop, Rook, Queen, King}
use Rattle.board_base.specs.declared.castles.Castle.{Castle}
use Rattle.board_base.specs.declared.castles.Castle.TheVariants.{WhiteShort, WhiteLong, BlackShort, BlackLong}

-- a side by its name
abbrev pub side_word : Colour → List ℕ
side_word White = codes "White"
side_word Black = codes "Black"

-- the colour of a man, with a space behind
abbrev pub colour_word : Colour → List ℕ
colour_word White = codes "white "
colour_word Black = codes "black "

-- a man's kind in a word
abbrev pub kind_word : Kind → List ℕ
kind_word Pawn = codes "pawn"
kind_word Knight = codes "knight"
kind_word Bishop = codes "bishop"
kind_word Rook = codes "rook"
kind_word Queen = codes "queen"
kind_word King = codes "king"

-- the letter before a man's move in long notation; a pawn's has none
abbrev pub initial : Kind → List ℕ
initial Pawn = []
initial Knight = codes "N"
initial Bishop = codes "B"
initial Rook = codes "R"
initial Queen = codes "Q"
initial King = codes "K"

-- the same for the man of a place; none if nobody stands there
abbrev pub place_initial : Option Man → List ℕ
place_initial None = []
place_initial (Some m) = initial m.kind

-- the letter of a man in the diagram: a capital one for White's
abbrev pub man_letter : Colour → Kind → ℕ
man_letter White k = letter_of k - 32
man_letter Black k = letter_of k

-- the letter of a place in the diagram, or a full stop
abbrev pub place_letter : Option Man → ℕ
place_letter None = 46
place_letter (Some m) = man_letter m.colour m.kind

-- a man as in `a black knight`; `nobody` where there is none
abbrev pub man_words : Option Man → List ℕ
man_words None = codes "nobody"
man_words (Some m) = codes "a " ++ colour_word m.colour ++ kind_word m.kind

-- the side of the board to which a king castles
abbrev pub wing_word : Castle → List ℕ
wing_word WhiteShort = codes "king's"
wing_word BlackShort = codes "king's"
wing_word WhiteLong = codes "queen's"
wing_word BlackLong = codes "queen's"

-- a square after a space, where it is to be written
abbrev pub given_square : Bool → ℕ → List ℕ
given_square given s = cond given (32 ∷ square_text s) []

-- a square after a space, where it passes a test
abbrev pub square_if : (ℕ → Bool) → ℕ → List ℕ
square_if p s = given_square (p s) s

-- the squares that pass a test, ascending, each after a space
unfoldable pub squares_words : (ℕ → Bool) → List ℕ
squares_words p = flat_map (square_if p) (range_with_len 0 64)
