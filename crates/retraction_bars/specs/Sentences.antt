-- The words of what bars the ways of a man.
use Rattle.std.specs.Prelude.{ℕ, Bool, false, true, cond, ◌&&◌, ◌==◌, drop, List, [], ◌∷◌, ◌++◌, Option, Some, None}
use Rattle.std.specs.Bool.{beq}
use Rattle.std.specs.List.{flat_map, list_any, range_with_len}
use Rattle.board_base.specs.Board.{at, is_of}
use Rattle.board_base.specs.declared.men.Kind.TheVariants.{Rook}
use Rattle.board_base.specs.Play.{king_home, rook_home}
use Rattle.board_base.specs.Texts.{square_text}
use Rattle.board_base.specs.declared.moves.Move.{Move}
use Rattle.prose_words.specs.Words.{initial, place_initial, side_word}
use Rattle.query_base.specs.Asked.{Asked}
use Rattle.unmove_gen.specs.Listed.{mover}
use Rattle.retraction_bars.specs.Numbers.{bar_at}
use Rattle.retraction_bars.specs.Phrases.{phrase}
use Rattle.retraction_bars.specs.Scopes.{same_manner}
use Rattle.retraction_bars.specs.declared.bars.Bar.{Bar}
use Rattle.retraction_bars.specs.declared.bars.Bar.TheVariants as bar
use Rattle.retraction_bars.specs.declared.gathering.Clause.{Clause}
use Rattle.retraction_bars.specs.declared.phrases.Phrase.{Phrase}
use Rattle.retraction_bars.specs.declared.phrases.Phrase.TheVariants as word
use Rattle.retraction_bars.specs.declared.scopes.Manner.{Manner}
use Rattle.retraction_bars.specs.declared.scopes.Manner.TheVariants.{Anywhere, Origin, Quiet, Taking, Passing}

-- the text, where it is to be written
abbrev pub text_if : Bool → List ℕ → List ℕ
text_if b text = cond b text []

-- the double step, as in `d7-d5`
abbrev pub double_words : Option Move → List ℕ
double_words None = []
double_words (Some m) = square_text m.from ++ 45 ∷ square_text m.to

-- the letter of the man of the side that moved who stood on a square before the move and didn't make it: he stands there still, or is a
-- rook, since only the rook of a castling goes with another man
abbrev pub bystander_initial : Asked → ℕ → List ℕ
bystander_initial q s = cond (is_of (mover q) (at q.board s)) (place_initial (at q.board s)) (initial Rook)

-- what bars a retraction, in words
abbrev pub bar_words : Asked → Bar → List ℕ
bar_words q bar.Only = phrase word.LastMove ++ double_words q.only
bar_words q (bar.Check s) = bystander_initial q s ++ square_text s ++ phrase word.GaveCheck
bar_words q bar.Occupied = phrase word.Occupied
bar_words q bar.Itself = phrase word.ItGave
bar_words q (bar.Held x) = phrase word.TheKing ++ square_text (king_home x) ++ phrase word.AndTheRook ++ square_text (rook_home x) ++ phrase word.NeverMoved
bar_words q bar.Barred = phrase word.RuledOut
bar_words q (bar.Account c) = side_word c ++ phrase word.TooMany
bar_words q bar.Clock = phrase word.ByClock
bar_words q bar.Passed = phrase word.NotPassed
bar_words q bar.Otherwise = phrase word.Illegal

-- how ways of a manner are named
abbrev pub start_of : Manner → Phrase
start_of Anywhere = word.From
start_of Origin = word.From
start_of Quiet = word.Quietly
start_of Taking = word.Capturing
start_of Passing = word.EnPassant

-- the clause says that the bar with this number bars all ways of this manner of the man on t from some square
abbrev pub is_ground : ℕ → Manner → ℕ → Clause → Bool
is_ground t m n c = (c.to == t) && same_manner m c.scope.manner && (c.bar == n)

-- and from this square, of a man whom the move promoted or not
abbrev pub tells : ℕ → Manner → ℕ → ℕ → Bool → Clause → Bool
tells t m n o p c = is_ground t m n c && (c.scope.from == o) && beq c.scope.promoted p

-- a square after a space
abbrev pub spaced : ℕ → List ℕ
spaced o = 32 ∷ square_text o

-- the origin, where a clause tells of it, and once more for a man whom the move promoted
abbrev pub origin_words : List Clause → ℕ → Manner → ℕ → ℕ → List ℕ
origin_words cs t m n o = text_if (list_any (tells t m n o false) cs) (spaced o) ++ text_if (list_any (tells t m n o true) cs) (spaced o ++ phrase word.AsPawn)

-- the origins of which a clause tells
unfoldable pub origins_words : List Clause → ℕ → Manner → ℕ → List ℕ
origins_words cs t m n = flat_map (origin_words cs t m n) (range_with_len 0 64)

-- a man by his letter and his square, after a space
abbrev pub label_words : Asked → ℕ → List ℕ
label_words q t = 32 ∷ (place_initial (at q.board t) ++ square_text t)

-- the ways of this manner of the man on t that a clause says are barred so, behind a comma
abbrev pub ways_words : Asked → List Clause → ℕ → ℕ → Manner → List ℕ
ways_words q cs n t m = text_if (list_any (is_ground t m n) cs) (44 ∷ (label_words q t ++ phrase (start_of m) ++ origins_words cs t m n))

-- the same of all manners
abbrev pub man_words : Asked → List Clause → ℕ → ℕ → List ℕ
man_words q cs n t = ways_words q cs n t Origin ++ ways_words q cs n t Quiet ++ ways_words q cs n t Taking ++ ways_words q cs n t Passing

-- the same of all men
unfoldable pub men_words : Asked → List Clause → ℕ → List ℕ
men_words q cs n = flat_map (man_words q cs n) (range_with_len 0 64)

-- the man on t, where a clause says that the bar with this number bars all his ways
abbrev pub whole_words : Asked → List Clause → ℕ → ℕ → List ℕ
whole_words q cs n t = text_if (list_any (is_ground t Anywhere n) cs) (label_words q t)

-- all such men
unfoldable pub wholes_words : Asked → List Clause → ℕ → List ℕ
wholes_words q cs n = flat_map (whole_words q cs n) (range_with_len 0 64)

-- from where, if the bar speaks of it
abbrev pub square_words : Bar → List ℕ
square_words bar.Itself = phrase word.AnySquare
square_words _ = []

-- the clause says that the bar with this number bars all ways of a man
abbrev pub is_whole : ℕ → Clause → Bool
is_whole n c = same_manner Anywhere c.scope.manner && (c.bar == n)

-- the men of whom the bar bars all ways, and then those of whom it bars some, with these
abbrev pub named_words : Asked → List Clause → ℕ → List ℕ
named_words q cs n =
    cond (list_any (is_whole n) cs) (wholes_words q cs n ++ square_words (bar_at n) ++ men_words q cs n) (drop 1 (men_words q cs n))

-- the clause has this bar
abbrev pub is_of_bar : ℕ → Clause → Bool
is_of_bar n c = c.bar == n

-- the sentence of one bar, where a clause has it
abbrev pub sentence_words : Asked → List Clause → ℕ → List ℕ
sentence_words q cs n =
    text_if (list_any (is_of_bar n) cs) (named_words q cs n ++ phrase word.Is ++ bar_words q (bar_at n) ++ phrase word.Stop)

-- the sentences of these clauses, bar by bar
unfoldable pub sentences_words : Asked → List Clause → List ℕ
sentences_words q cs = flat_map (sentence_words q cs) (range_with_len 0 146)
