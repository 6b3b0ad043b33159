-- The text of each line of a ledger, without its end.
use Rattle.std.specs.Prelude.{ℕ, ◌+◌, ◌/◌, ◌%◌, ◌==◌, Bool, true, false, cond, List, [], ◌∷◌, ◌++◌, codes, nat_lt, Option, Some, None, slice_index}
use Rattle.std.specs.List.{flat_map, list_any, range_with_len}
use Rattle.std.specs.Fmt.{decimal}
use Rattle.board_base.specs.Board.{is_in}
use Rattle.board_base.specs.Texts.{square_text}
use Rattle.board_base.specs.declared.men.Colour.{Colour}
use Rattle.board_base.specs.declared.men.Colour.TheVariants.{White, Black}
use Rattle.prose_words.specs.Words.{squares_words}
use Rattle.ledger_search.specs.declared.counts.Range.{Range}
use Rattle.ledger_lines.specs.Known.{number_in}
use Rattle.ledger_lines.specs.Slants.{tells_way, way_words}
use Rattle.ledger_lines.specs.declared.lines.Line.{Line}
use Rattle.ledger_lines.specs.declared.lines.Line.TheVariants.{Unmoved, Lacks, Captures, Pawn, Man, Ahead, Original, Promoted, Among, Fell, Became}
use Rattle.ledger_lines.specs.declared.losses.Losses.{Losses}
use Rattle.ledger_lines.specs.declared.lines.Taker.{Taker}
use Rattle.ledger_lines.specs.declared.lines.Taker.TheVariants.{Anyone, Pawn as ByPawn, Officer}
use Rattle.ledger_lines.specs.declared.lines.Takings.{Takings}
use Rattle.ledger_lines.specs.declared.lines.Manner.{Manner}
use Rattle.ledger_lines.specs.declared.lines.Manner.TheVariants.{Anyhow, AsPawn, AsPromoted}

-- the letter of a side
abbrev pub side_letter : Colour → List ℕ
side_letter White = codes "w"
side_letter Black = codes "b"

-- who took a man, and as what, each after a space
abbrev pub taker_word : Taker → List ℕ
taker_word Anyone = []
taker_word ByPawn = codes " pawn"
taker_word Officer = codes " officer"

-- as what he was taken, after a space
abbrev pub manner_word : Manner → List ℕ
manner_word Anyhow = []
manner_word AsPawn = codes " as-pawn"
manner_word AsPromoted = codes " as-promoted"

-- a number and a square after a space
abbrev pub spaced_number : ℕ → List ℕ
spaced_number n = codes " " ++ decimal n

-- on one of how many squares the man of h was taken, after a space, if that is told
abbrev pub within_words : ℕ → List Bool → List ℕ
within_words h within = cond (is_in within h) (codes " within" ++ spaced_number (number_in within)) []

-- the shade of squares, behind their file
abbrev pub shade_word : Bool → List ℕ
shade_word true = codes "-dark"
shade_word false = codes "-light"

-- at least so many captures on a class, if there are some, after a space; 97 is the letter a
abbrev pub class_words : ℕ → ℕ → List ℕ
class_words k n = cond (nat_lt 0 n) (codes " on " ++ (97 + k / 2) ∷ shade_word (k % 2 == 0) ++ spaced_number n) []

-- on each class
unfoldable pub classes_words : List ℕ → List ℕ
classes_words numbers = flat_map (λ k. class_words k (slice_index numbers k)) (range_with_len 0 16)

-- two numbers, each after a space
abbrev pub range_words : Range → List ℕ
range_words r = spaced_number r.least ++ spaced_number r.most

-- the captures on dark squares, after a space
abbrev pub dark_words : Option Range → List ℕ
dark_words None = []
dark_words (Some r) = codes " dark" ++ range_words r

-- the numbers of captures
abbrev pub takings_words : Takings → List ℕ
takings_words x = range_words x.all ++ spaced_number x.lacking ++ dark_words x.dark ++ classes_words x.least_on

-- a square after a space
abbrev pub spaced_square : ℕ → List ℕ
spaced_square s = codes " " ++ square_text s

-- a home after a space if it is the first of its set, after a comma if others stand before it
abbrev pub home_word : Bool → Bool → ℕ → List ℕ
home_word given several h = cond given (cond several (codes ",") (codes " ") ++ square_text h) []

-- the homes of a set, one behind the other
unfoldable pub homes_words : List Bool → List ℕ
homes_words homes = flat_map (λ h. home_word (is_in homes h) (list_any (is_in homes) (range_with_len 0 h)) h) (range_with_len 0 64)

-- a word so many times
unfoldable pub repeated : List ℕ → ℕ → List ℕ
repeated word n = flat_map (λ i. word) (range_with_len 0 n)

-- a word for each man, after a space; `bd` and `bl` are the bishops of dark and of light squares
abbrev pub losses_words : Losses → List ℕ
losses_words x = repeated (codes " q") x.queens ++ repeated (codes " r") x.rooks ++ repeated (codes " bd") x.dark_bishops ++ repeated (codes " bl") x.light_bishops ++ repeated (codes " n") x.knights ++ repeated (codes " p") x.pawns

-- a sign behind a number that may be greater
abbrev pub more_word : Bool → List ℕ
more_word true = []
more_word false = codes "+"

-- on which squares the pawn of s captured, if it is told, or how often
abbrev pub made_words : ℕ → List Bool → ℕ → Bool → List ℕ
made_words s homes n exact = cond (tells_way homes s) (way_words (codes " ") homes s) (spaced_number n ++ more_word exact)

-- squares stand in ascending order, but those of a way in its order
abbrev pub line_text : Line → List ℕ
line_text (Unmoved set) = codes "unmoved" ++ squares_words (is_in set)
line_text (Lacks side losses) = codes "lacks " ++ side_letter side ++ losses_words losses
line_text (Captures side x) = codes "captures " ++ side_letter side ++ takings_words x
line_text (Pawn s homes n exact) = codes "pawn" ++ spaced_square s ++ homes_words homes ++ made_words s homes n exact
line_text (Man s h) = codes "man" ++ spaced_square s ++ spaced_square h
line_text (Ahead set) = codes "ahead" ++ squares_words (is_in set)
line_text (Original set) = codes "original" ++ squares_words (is_in set)
line_text (Promoted s homes) = codes "promoted" ++ spaced_square s ++ homes_words homes
line_text (Among n set) = codes "among" ++ spaced_number n ++ squares_words (is_in set)
line_text (Fell h taker manner within) = codes "fell" ++ spaced_square h ++ taker_word taker ++ manner_word manner ++ within_words h within
line_text (Became h) = codes "became" ++ spaced_square h
