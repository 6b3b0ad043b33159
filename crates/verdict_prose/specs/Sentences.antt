-- The sentences that tell verdicts.
use Rattle.std.specs.Prelude.{ℕ, ◌+◌, ◌/◌, ◌%◌, ◌==◌, ◌||◌, Bool, true, false, cond, codes, List, [], ◌++◌}
use Rattle.std.specs.Fmt.{decimal}
use Rattle.board_base.specs.Board.{opponent, same_colour}
use Rattle.board_base.specs.Play.{side}
use Rattle.board_base.specs.Texts.{square_text}
use Rattle.board_base.specs.declared.castles.Castle.{Castle}
use Rattle.board_base.specs.declared.men.Colour.{Colour}
use Rattle.board_base.specs.declared.men.Colour.TheVariants.{White, Black}
use Rattle.board_base.specs.declared.moves.Move.{Move}
use Rattle.query_base.specs.Asked.{Asked}
use Rattle.query_base.specs.declared.claims.Claim.{Claim}
use Rattle.query_base.specs.declared.claims.Claim.TheVariants.{Illegal, Last, Lost, Ep}
use Rattle.prose_words.specs.Words.{side_word, wing_word}
use Rattle.proof_story.specs.Movers.{became}
use Rattle.proof_story.specs.Rows.{rows_of}
use Rattle.verdict_prose.specs.declared.verdicts.Verdict.{Verdict}
use Rattle.verdict_prose.specs.declared.verdicts.Verdict.TheVariants.{Shown, GivenPassing, Countered, Unsettled, NotBoth, UnsettledBoth, OtherShown, OtherCountered, OtherUnsettled, GivenShown, PlainShown, PlainCountered, AtLeast}

-- whence and where a move went; whether it captured isn't told
unfoldable pub move_words : Move → List ℕ
move_words m = codes "from " ++ square_text m.from ++ codes " to " ++ square_text m.to ++ became m.promo

-- a capture en passant
unfoldable pub capture_words : Move → List ℕ
capture_words m = square_text m.from ++ codes "x" ++ square_text m.to ++ codes " en passant"

-- on which side of the board a castling is
unfoldable pub right_words : Castle → List ℕ
right_words x = codes " the right to castle on the " ++ wing_word x ++ codes " side"

-- that a right to castle is lost
unfoldable pub lost_words : Castle → List ℕ
lost_words x = side_word (side x) ++ codes " has lost" ++ right_words x

-- that a right to castle is kept
unfoldable pub keeps_words : Castle → List ℕ
keeps_words x = side_word (side x) ++ codes " keeps" ++ right_words x

-- whose right it is, and on which side of the board
unfoldable pub owner_words : Castle → List ℕ
owner_words x = side_word (side x) ++ codes "'s on the " ++ wing_word x ++ codes " side"

-- two rights, with this between them
unfoldable pub either_words : List ℕ → Castle → Castle → List ℕ
either_words between x y = owner_words x ++ between ++ owner_words y

-- that at least one of two rights is lost
unfoldable pub not_both_words : Castle → Castle → List ℕ
not_both_words x y =
    cond (same_colour (side x) (side y)) (side_word (side x) ++ codes " may castle on one side at most: at least one of the two rights is lost") (codes "At least one of two rights to castle is lost: " ++ either_words (codes " or ") x y ++ codes "; so whoever castles first shows that the other has lost the right")

-- that two rights can both be kept
unfoldable pub may_both_words : Castle → Castle → List ℕ
may_both_words x y =
    cond (same_colour (side x) (side y)) (side_word (side x) ++ codes " can have kept both rights to castle") (codes "two rights to castle can both be kept, " ++ either_words (codes " and ") x y)

-- that it isn't settled whether they can
abbrev pub unsettled_both_words : Castle → Castle → List ℕ
unsettled_both_words x y = codes "Not settled: whether " ++ may_both_words x y

-- that the claim holds
abbrev pub shown_words : Claim → List ℕ
shown_words Illegal = codes "No game leads to this position"
shown_words (Last m) = codes "The last move went " ++ move_words m
shown_words (Lost x) = lost_words x
shown_words (Ep m) = codes "The capture " ++ capture_words m ++ codes " is legal"

-- that a capture en passant is legal after the double step that is given
unfoldable pub given_words : Move → List ℕ
given_words m = codes "The capture " ++ capture_words m ++ codes " is legal, since the last move is given"

-- that a game contradicts it
abbrev pub countered_words : Claim → List ℕ
countered_words Illegal = codes "A game leads to this position"
countered_words (Last m) = codes "A game leads here that doesn't end with the move " ++ move_words m
countered_words (Lost x) = codes "A game leads here in which " ++ keeps_words x
countered_words (Ep m) = codes "The capture " ++ capture_words m ++ codes " need not be legal: a game leads here after which it isn't"

-- what is claimed
abbrev pub whether_words : Claim → List ℕ
whether_words Illegal = codes "a game leads to this position"
whether_words (Last m) = codes "the last move went " ++ move_words m
whether_words (Lost x) = lost_words x
whether_words (Ep m) = codes "the capture " ++ capture_words m ++ codes " is legal"

-- a number from eleven to thirteen, in its last two digits
abbrev pub is_teen : ℕ → Bool
is_teen n = (n % 100 == 11) || (n % 100 == 12) || (n % 100 == 13)

-- the letters behind a number that counts, by its last digit
abbrev pub digit_letters : ℕ → List ℕ
digit_letters n = cond (n == 1) (codes "st") (cond (n == 2) (codes "nd") (cond (n == 3) (codes "rd") (codes "th")))

-- a number that counts, as in `21st`
unfoldable pub ordinal : ℕ → List ℕ
ordinal n = decimal n ++ cond (is_teen n) (codes "th") (digit_letters (n % 10))

-- whose half-move this is, counted from 1
abbrev pub mover_at : ℕ → Colour
mover_at n = cond (n % 2 == 1) White Black

-- so many half-moves
unfoldable pub half_moves : ℕ → List ℕ
half_moves n = cond (n == 1) (codes "one half-move") (decimal n ++ codes " half-moves")

-- with which move a game of so many half-moves ends
unfoldable pub end_words : ℕ → List ℕ
end_words n = side_word (mover_at n) ++ codes "'s " ++ ordinal ((n + 1) / 2) ++ codes " move at the earliest"

-- that each game is so long, one half-move at least
abbrev pub length_words : ℕ → List ℕ
length_words n = codes "No game leads here in fewer than " ++ half_moves n ++ codes ": each ends with " ++ end_words n

-- what is said of the position with the other side to move
abbrev pub turned_words : Asked → List ℕ → List ℕ
turned_words q said = codes "With " ++ side_word (opponent q.turn) ++ codes " to move " ++ said

-- the words of a verdict
abbrev pub words_of : Asked → Verdict → List ℕ
words_of q (Shown claim) = shown_words claim
words_of q (Countered claim) = countered_words claim
words_of q (GivenPassing m) = given_words m
words_of q (Unsettled claim) = codes "Not settled: whether " ++ whether_words claim
words_of q (NotBoth x y) = not_both_words x y
words_of q (UnsettledBoth x y) = unsettled_both_words x y
words_of q OtherShown = turned_words q (codes "no game leads here either")
words_of q OtherCountered = turned_words q (codes "a game leads here: was the wrong side typed?")
words_of q OtherUnsettled = turned_words q (codes "the position isn't known to be illegal: was the wrong side typed?")
words_of q GivenShown = codes "No game leads to this position with what is given below it"
words_of q PlainShown = codes "Without that no game leads here either"
words_of q PlainCountered = codes "Without that a game leads here"
words_of q (AtLeast n) = length_words n

-- a question ends by itself
abbrev pub is_question : Verdict → Bool
is_question OtherCountered = true
is_question OtherUnsettled = true
is_question _ = false

-- the sentence of a verdict, in rows of at most a hundred letters
abbrev pub verdict_text : Asked → Verdict → List ℕ
verdict_text q v = rows_of (words_of q v ++ cond (is_question v) [] (codes "."))
