-- The words of the sentences of a ledger's paragraph.
use Rattle.std.specs.Prelude.{ℕ, ◌+◌, ◌-◌, ◌/◌, ◌%◌, ◌==◌, ◌&&◌, ◌||◌, Bool, false, true, cond, codes, drop, not, length, List, [], ◌∷◌, ◌++◌, map, nat_le, nat_lt, Option, Some, None, slice_index}
use Rattle.std.specs.List.{count_by, flat_map, list_any, range_with_len}
use Rattle.board_base.specs.Board.{array_of, at, file, opponent}
use Rattle.board_base.specs.Texts.{square_text}
use Rattle.board_base.specs.declared.men.Colour.{Colour}
use Rattle.board_base.specs.declared.men.Man.{Man as AMan}
use Rattle.query_base.specs.Asked.{Asked}
use Rattle.prose_words.specs.Words.{colour_word, kind_word, side_word}
use Rattle.proof_story.specs.Rendering.{parted}
use Rattle.proof_story.specs.Rows.{rows_of}
use Rattle.ledger_lines.specs.Known.{lacking}
use Rattle.ledger_lines.specs.Slants.{tells_class, tells_way, way_words as slants_words}
use Rattle.ledger_lines.specs.declared.lines.Line.{Line}
use Rattle.ledger_lines.specs.declared.lines.Line.TheVariants as line
use Rattle.ledger_lines.specs.declared.lines.Taker.{Taker}
use Rattle.ledger_lines.specs.declared.lines.Taker.TheVariants.{Anyone, Pawn as ByPawn, Officer}
use Rattle.ledger_lines.specs.declared.lines.Takings.{Takings}
use Rattle.ledger_lines.specs.declared.lines.Manner.{Manner}
use Rattle.ledger_lines.specs.declared.lines.Manner.TheVariants.{Anyhow, AsPawn, AsPromoted}
use Rattle.ledger_lines.specs.declared.losses.Losses.{Losses}
use Rattle.ledger_prose.specs.Numbers.{number_words}
use Rattle.ledger_prose.specs.Sentences.{Sentence, alone, captured, is_named, lacks, needed, number_named, together, took}
use Rattle.ledger_prose.specs.declared.names.Joint.{Joint}
use Rattle.ledger_prose.specs.declared.names.Joint.TheVariants.{Slash, And, AndThe, Or}
use Rattle.ledger_prose.specs.declared.names.Style.{Style}
use Rattle.ledger_prose.specs.declared.names.Style.TheVariants.{Squares, Standing, Homes, Files}
use Rattle.ledger_prose.specs.declared.parts.Group.{Group}
use Rattle.ledger_prose.specs.declared.parts.Group.TheVariants.{Captors, Pawns, Officers, AtHome, Promoted, Original, Unmoved}

-- what stands between two, if another follows
abbrev pub comma_of : Joint → List ℕ
comma_of Slash = codes "/"
comma_of And = codes ", "
comma_of AndThe = codes ", the "
comma_of Or = codes ", "

-- what stands before the last of several
abbrev pub last_of : Joint → List ℕ
last_of Slash = codes "/"
last_of And = codes " and "
last_of AndThe = codes " and the "
last_of Or = codes " or "

-- what stands before one, if others stand before it, and more behind it
abbrev pub sign_of : Joint → Bool → Bool → List ℕ
sign_of joint several more = cond several (cond more (comma_of joint) (last_of joint)) []

-- whoever stands on a place
abbrev pub place_word : Option AMan → List ℕ
place_word None = codes "man"
place_word (Some m) = kind_word m.kind

-- a square; the man who stands there; the man whose home it is; the file of a pawn whose home it is
abbrev pub square_words : Style → Asked → ℕ → List ℕ
square_words Squares q s = square_text s
square_words Standing q s = place_word (at q.board s) ++ codes " on " ++ square_text s
square_words Homes q s = place_word (at (array_of q.odds) s) ++ codes " of " ++ square_text s
square_words Files q s = (97 + file s) ∷ codes "-"

-- one of several behind its sign, if it is to be named
abbrev pub given_words : Joint → Bool → Bool → Bool → List ℕ → List ℕ
given_words joint given several more words = cond given (sign_of joint several more ++ words) []

-- some square from this one on passes the test
abbrev pub is_any_from : (ℕ → Bool) → ℕ → Bool
is_any_from p n = list_any p (range_with_len n (64 - n))

-- the same of a square that some lines name, among the others that they name
abbrev pub name_at : Joint → Style → Asked → List Line → ℕ → List ℕ
name_at joint style q xs s =
    given_words joint (is_named q xs s) (list_any (is_named q xs) (range_with_len 0 s)) (is_any_from (is_named q xs) (s + 1)) (square_words style q s)

-- the squares that some lines name, as in `a8/h8` or in `a8, e8 and h8`
unfoldable pub names_words : Joint → Style → Asked → List Line → List ℕ
names_words joint style q xs = flat_map (name_at joint style q xs) (range_with_len 0 64)

-- so many men
abbrev pub men_words : ℕ → List ℕ
men_words n = cond (n == 1) (codes "one man") (number_words n ++ codes " men")

-- so many men of a kind, of which one and two have words of their own
abbrev pub some_words : ℕ → List ℕ → List ℕ → List ℕ → List ℕ
some_words n one two kind = cond (n == 1) one (cond (n == 2) two (number_words n ++ kind))

-- the bishops, of dark squares, of light ones or both
abbrev pub bishop_words : Bool → Bool → List ℕ
bishop_words dark light = cond (dark && light) (codes "both bishops") (cond dark (codes "the dark bishop") (codes "the light bishop"))

-- some bishops are lacking
abbrev pub lacks_bishops : Losses → Bool
lacks_bishops x = nat_lt 0 x.dark_bishops || nat_lt 0 x.light_bishops

-- behind the rooks, or behind the bishops, others are lacking
abbrev pub lacks_minors : Losses → Bool
lacks_minors x = lacks_bishops x || nat_lt 0 x.knights || nat_lt 0 x.pawns

-- knights or pawns are lacking
abbrev pub lacks_few : Losses → Bool
lacks_few x = nat_lt 0 x.knights || nat_lt 0 x.pawns

-- before the bishops, or before the knights, others are lacking
abbrev pub lacks_majors : Losses → Bool
lacks_majors x = nat_lt 0 x.queens || nat_lt 0 x.rooks

-- queens, rooks or bishops are lacking
abbrev pub lacks_pieces : Losses → Bool
lacks_pieces x = lacks_majors x || lacks_bishops x

-- those who are lacking of each kind, with a sign before them
abbrev pub queens_words : Losses → List ℕ
queens_words x = cond (nat_lt 0 x.queens) (some_words x.queens (codes "the queen") (codes "two queens") (codes " queens")) []

-- the rooks who are lacking, with a sign before them if others stand there
abbrev pub rooks_words : Losses → List ℕ
rooks_words x = given_words And (nat_lt 0 x.rooks) (nat_lt 0 x.queens) (lacks_minors x) (some_words x.rooks (codes "a rook") (codes "both rooks") (codes " rooks"))

-- the bishops
abbrev pub bishops_words : Losses → List ℕ
bishops_words x = given_words And (lacks_bishops x) (lacks_majors x) (lacks_few x) (bishop_words (nat_lt 0 x.dark_bishops) (nat_lt 0 x.light_bishops))

-- the knights
abbrev pub knights_words : Losses → List ℕ
knights_words x = given_words And (nat_lt 0 x.knights) (lacks_pieces x) (nat_lt 0 x.pawns) (some_words x.knights (codes "a knight") (codes "both knights") (codes " knights"))

-- the pawns
abbrev pub pawns_words : Losses → List ℕ
pawns_words x = given_words And (nat_lt 0 x.pawns) (lacks_pieces x || nat_lt 0 x.knights) false (some_words x.pawns (codes "a pawn") (codes "two pawns") (codes " pawns"))

-- all who are lacking, kind by kind
abbrev pub losses_words : Losses → List ℕ
losses_words x = queens_words x ++ rooks_words x ++ bishops_words x ++ knights_words x ++ pawns_words x

-- how many they are
abbrev pub number_lost : Losses → ℕ
number_lost x = x.queens + x.rooks + x.dark_bishops + x.light_bishops + x.knights + x.pawns

-- that the side has fewer men less than that in all, since it has more of another kind
abbrev pub short_words : ℕ → List ℕ
short_words n = cond (n == 0) (codes ", but is not a man short") (codes ", but is only " ++ men_words n ++ codes " short")

-- whom a side lacks who lacks so many men in all: those of each kind if they are at most eight
abbrev pub lost_words : ℕ → Losses → List ℕ
lost_words n x = cond (nat_lt 8 (number_lost x)) (men_words n) (losses_words x ++ cond (not (number_lost x == n)) (short_words n) [])

-- that a side lacks these men, so many in all
abbrev pub side_lacks : Colour → ℕ → Losses → List ℕ
side_lacks side n x = side_word side ++ codes " lacks " ++ lost_words n x

-- what a line says of the men whom a side lacks
abbrev pub lacks_words : Asked → Line → List ℕ
lacks_words q (line.Lacks side x) = side_lacks side (lacking q side) x
lacks_words q _ = []

-- that a pawn of this side took the one man whom the other side lacks
abbrev pub it_words : Colour → List ℕ
it_words side = codes "A " ++ colour_word side ++ codes "pawn took it"

-- both, or all of so many
abbrev pub both_words : ℕ → List ℕ
both_words n = cond (n == 2) (codes "both") (codes "all " ++ number_words n)

-- that a side's pawns took all whom the other side lacks, so many
abbrev pub all_words : Colour → ℕ → List ℕ
all_words side n = cond (n == 1) (it_words side) (side_word side ++ codes "'s pawns took " ++ both_words n)

-- that they took so many, behind some words
abbrev pub of_them : List ℕ → ℕ → List ℕ
of_them before n = before ++ number_words n ++ codes " of them"

-- that they took at most so many
abbrev pub few_words : ℕ → List ℕ
few_words most = cond (most == 0) (codes "never captured") (of_them (codes "took at most ") most)

-- how many they took at most, if that is fewer than the other side lacks
abbrev pub limit_words : ℕ → ℕ → List ℕ
limit_words most missing = cond (nat_lt most missing) (codes ", at most " ++ number_words most) []

-- that they took at least so many
abbrev pub least_words : ℕ → ℕ → ℕ → List ℕ
least_words least most missing =
    cond (least == most) (of_them (codes "took exactly ") least) (of_them (codes "took at least ") least ++ limit_words most missing)

-- how many the pawn of a line took at least
abbrev pub taken_by : Line → ℕ
taken_by (line.Pawn s homes n exact) = n
taken_by _ = 0

-- the pawns of these lines took more than so many
abbrev pub are_more : ℕ → List Line → Bool
are_more n [] = false
are_more n (x ∷ xs) = nat_lt n (taken_by x) || are_more (n - taken_by x) xs

-- that they took some, if the lines of single pawns say more than the least number
abbrev pub number_taken : Bool → Takings → List ℕ
number_taken more x = cond more (codes "took some of them" ++ limit_words x.all.most x.lacking) (least_words x.all.least x.all.most x.lacking)

-- that they took some, or not all
abbrev pub part_words : Bool → Takings → List ℕ
part_words more x = cond (x.all.least == 0) (few_words x.all.most) (number_taken more x)

-- how many of those whom the other side lacks a side's pawns took
abbrev pub taken_words : Colour → Bool → Takings → List ℕ
taken_words side more x = cond (nat_le x.lacking x.all.least) (all_words side x.lacking) (side_word side ++ codes "'s pawns " ++ part_words more x)

-- how many the pawn of a line took, unless there is only one to be taken
abbrev pub share_words : Bool → Bool → ℕ → List ℕ
share_words single exact n = cond single [] (cond exact (codes " ") (codes " at least ") ++ number_words n)

-- to where a pawn went, and how many he took
abbrev pub gone_words : ℕ → Bool → Bool → ℕ → List ℕ
gone_words s single exact n = codes "-" ++ square_text s ++ share_words single exact n

-- from where the pawn of a line went, and each square on which he captured if that is known, as in `h7xg6xf5`; otherwise to where, and how many
-- he took, as in `b7/c7-b3 at least one`
abbrev pub way_words : Asked → Bool → Line → List ℕ
way_words q single (line.Pawn s homes n exact) =
    names_words Slash Squares q (line.Pawn s homes n exact ∷ []) ++ cond (tells_way homes s) (slants_words (codes "x") homes s) (gone_words s single exact n)
way_words q single _ = []

-- how many captures are spoken of before the ways: as many as the other side lacks men, or the least number
abbrev pub number_told : Takings → ℕ
number_told x = cond (nat_le x.lacking x.all.least) x.lacking x.all.least

-- how many captures are left of so many beside those by the pawns of these lines
abbrev pub number_left : ℕ → List Line → ℕ
number_left n [] = n
number_left n (x ∷ xs) = number_left (n - taken_by x) xs

-- the pawn of the line may have made more captures than it says
abbrev pub is_open : Line → Bool
is_open (line.Pawn s homes n exact) = not exact && not (tells_way homes s)
is_open _ = false

-- the line doesn't say on which squares its pawn captured
abbrev pub is_unplaced : Line → Bool
is_unplaced (line.Pawn s homes n exact) = not (tells_way homes s)
is_unplaced _ = true

-- the line says of its pawn that he captured on this class of squares
abbrev pub is_on : ℕ → Line → Bool
is_on class (line.Pawn s homes n exact) = tells_class class homes s
is_on class _ = false

-- some captures were made on the class, and by none of these pawns as far as it is said
abbrev pub is_elsewhere : Takings → List Line → ℕ → Bool
is_elsewhere x ways class = nat_lt 0 (slice_index x.least_on class) && not (list_any (is_on class) ways)

-- how many such classes there are
unfoldable pub number_elsewhere : Takings → List Line → ℕ
number_elsewhere x ways = count_by (is_elsewhere x ways) (range_with_len 0 16)

-- One capture is left, all squares of the others are said, and there is one class on which none of these were made but some were: that one.
abbrev pub is_placed : ℕ → Takings → List Line → Bool
is_placed left x ways = (left == 1) && not (list_any is_unplaced ways) && (number_elsewhere x ways == 1)

-- on a square of a class, by its file and its shade; 97 is the letter a
abbrev pub class_words : ℕ → List ℕ
class_words class = cond (class % 2 == 0) (codes " on a dark square of the ") (codes " on a light square of the ") ++ (97 + class / 2) ∷ codes "-file"

-- on such classes
unfoldable pub classes_words : Takings → List Line → List ℕ
classes_words x ways = flat_map (λ k. cond (is_elsewhere x ways k) (class_words k) []) (range_with_len 0 16)

-- so many more captures, or one on its class
abbrev pub left_words : ℕ → Takings → List Line → List ℕ
left_words left x ways = codes ", and " ++ number_words left ++ cond (is_placed left x ways) (classes_words x ways) (codes " more")

-- the same if some are left, and the pawns of these lines made none of them
abbrev pub rest_words : ℕ → Takings → List Line → List ℕ
rest_words left x ways = cond ((left == 0) || list_any is_open ways) [] (left_words left x ways)

-- what stands before the ways: not all captures are theirs if some are left, and pawns of these lines may have made them
abbrev pub ways_sign : ℕ → List Line → List ℕ
ways_sign left ways = cond (nat_lt 0 left && list_any is_open ways) (codes "; among these captures: ") (codes ": ")

-- the ways of several lines behind such a sign, if there are any, and the captures that are left
abbrev pub ways_words : Asked → ℕ → Takings → List Line → List ℕ
ways_words q left x ways = cond (length ways == 0) [] (ways_sign left ways ++ parted (codes ", ") (map (way_words q (x.lacking == 1)) ways) ++ rest_words left x ways)

-- what a line of captures says, with the lines of the side's pawns
abbrev pub side_took : Colour → Asked → Takings → List Line → List ℕ
side_took side q x ways = taken_words side (are_more x.all.least ways) x ++ ways_words q (number_left (number_told x) ways) x ways

-- what a line of captures says, with the lines of the pawns who made them
abbrev pub took_words : Asked → Line → List Line → List ℕ
took_words q (line.Captures side x) ways = side_took side q x ways
took_words q _ ways = []

-- what stands before the captures of a side's pawns: that they made one, or more
abbrev pub made_words : Bool → List ℕ
made_words more = cond more (codes "'s pawns made at least these captures: ") (codes "'s pawns made at least one capture: ")

-- that this side's pawns made the captures of several lines
abbrev pub captured_words : Colour → Bool → Asked → List Line → List ℕ
captured_words c more q ways = side_word c ++ made_words more ++ parted (codes ", ") (map (way_words q (not more)) ways)

-- the lines name one square
abbrev pub is_single : Asked → List Line → Bool
is_single q xs = number_named q xs == 1

-- what is said of men on a board: of one, or of several
abbrev pub of_men : Asked → List Line → List ℕ → List ℕ → List ℕ
of_men q xs one several = cond (is_single q xs) (codes "The " ++ names_words And Standing q xs ++ one) (codes "The men on " ++ names_words And Squares q xs ++ several)

-- all pawns of a side
abbrev pub all_pawns_of : Colour → List ℕ
all_pawns_of c = codes "All of " ++ side_word c ++ codes "'s pawns were "

-- pawns of a side by their files
abbrev pub some_pawns_of : Colour → Asked → List Line → List ℕ
some_pawns_of c q xs = side_word c ++ codes "'s " ++ names_words And Files q xs ++ cond (is_single q xs) (codes "pawn was ") (codes "pawns were ")

-- the same of eight pawns, who are all
unfoldable pub pawns_of : Colour → Asked → List Line → List ℕ
pawns_of c q xs = cond (number_named q xs == 8) (all_pawns_of c) (some_pawns_of c q xs)

-- as what one or several were taken
abbrev pub manner_words : Bool → Manner → List ℕ
manner_words single Anyhow = codes "taken"
manner_words single AsPawn = cond single (codes "taken as a pawn") (codes "taken as pawns")
manner_words single AsPromoted = codes "promoted and then taken"

-- by pawns of this side
abbrev pub pawn_words : Bool → Colour → List ℕ
pawn_words single c = cond single (codes " by a " ++ colour_word c ++ codes "pawn") (codes " by " ++ colour_word c ++ codes "pawns")

-- by whom of this side
abbrev pub taker_words : Bool → Colour → Taker → List ℕ
taker_words single c Anyone = []
taker_words single c ByPawn = pawn_words single c
taker_words single c Officer = codes ", but not by a pawn"

-- that officers of this side fell, in words for one or for several
abbrev pub officers_words : Colour → Taker → Asked → List Line → List ℕ → List ℕ → List ℕ
officers_words c taker q xs one several = codes "The " ++ names_words AndThe Homes q xs ++ cond (is_single q xs) one several ++ taker_words (is_single q xs) (opponent c) taker

-- what the lines of a group say
abbrev pub group_words : Group → Asked → List Line → List ℕ
group_words (Captors c) q xs = []
group_words (Pawns c taker manner) q xs = pawns_of c q xs ++ manner_words (is_single q xs) manner ++ taker_words (is_single q xs) (opponent c) taker
group_words (Officers c taker) q xs = officers_words c taker q xs (codes " was taken") (codes " were taken")
group_words (AtHome c taker) q xs = officers_words c taker q xs (codes " was taken at home") (codes " were taken at home")
group_words (Promoted c) q xs = pawns_of c q xs ++ codes "promoted"
group_words Original q xs = of_men q xs (codes " is not a promoted pawn") (codes " are not promoted pawns")
group_words Unmoved q xs = of_men q xs (codes " never moved") (codes " never moved")

-- which pawn a man was, of some, or only that he was one if they are many
abbrev pub pawn_was : Bool → Asked → List Line → List ℕ
pawn_was many q xs = cond many (codes "a promoted pawn") (codes "the promoted pawn of " ++ names_words Or Squares q xs)

-- that at least so many of some men are promoted pawns
abbrev pub among_words : Asked → ℕ → List Line → List ℕ
among_words q n xs = codes "At least " ++ number_words n ++ codes " of the men on " ++ names_words And Squares q xs ++ cond (n == 1) (codes " is a promoted pawn") (codes " are promoted pawns")

-- what a line says
abbrev pub line_words : Asked → Line → List ℕ
line_words q (line.Man s h) = codes "The " ++ square_words Standing q s ++ codes " is that of " ++ square_text h
line_words q (line.Promoted s homes) = codes "The " ++ square_words Standing q s ++ codes " is " ++ pawn_was (nat_lt 3 (number_named q (line.Promoted s homes ∷ []))) q (line.Promoted s homes ∷ [])
line_words q (line.Among n set) =
    cond (number_named q (line.Among n set ∷ []) == n) (of_men q (line.Among n set ∷ []) (codes " is a promoted pawn") (codes " are promoted pawns")) (among_words q n (line.Among n set ∷ []))
line_words q _ = []

-- the words of a sentence
abbrev pub words_of : Asked → Sentence → List ℕ
words_of q (lacks x) = lacks_words q x ++ codes "."
words_of q (took x ways) = took_words q x ways ++ codes "."
words_of q (captured c ways) = captured_words c (are_more 1 ways) q ways ++ codes "."
words_of q (needed x others) = codes "No capture is to spare."
words_of q (alone x) = line_words q x ++ codes "."
words_of q (together group xs) = group_words group q xs ++ codes "."

-- sentences, each after a blank
unfoldable pub spaced_words : Asked → List Sentence → List ℕ
spaced_words q sentences = flat_map (λ x. 32 ∷ words_of q x) sentences

-- the rows of a text without its first letter, if it has any
abbrev pub paragraph_of : List ℕ → List ℕ
paragraph_of text = cond (length text == 0) [] (rows_of (drop 1 text))

-- the paragraph of some sentences, in rows of at most a hundred letters; nothing if there are none
abbrev pub prose_text : Asked → List Sentence → List ℕ
prose_text q sentences = paragraph_of (spaced_words q sentences)
