-- The words of the sentences that tell why no game comes to a sketch.
use Rattle.std.specs.Prelude.{ℕ, ◌+◌, ◌==◌, Bool, cond, ◌||◌, length, List, [], ◌∷◌, ◌++◌, codes}
use Rattle.std.specs.List.{flat_map, range_with_len}
use Rattle.std.specs.Fmt.{decimal}
use Rattle.board_base.specs.Board.{array_of, at as man_at, is_in}
use Rattle.board_base.specs.Rights.{Rights}
use Rattle.board_base.specs.Texts.{square_text}
use Rattle.prose_words.specs.Words.{man_words}
use Rattle.sketch_text.specs.declared.labels.Label.{Label}
use Rattle.sketch_text.specs.declared.labels.Label.TheVariants.{Now, Step, Case}
use Rattle.sketch_words.specs.Words.{common, held_homes, lead_word, men_words, name_words, set_words, without}

-- where a node is told: what begins a line there, what the numbers of its siblings begin with, and whose men are said never to have moved
pub record Spot : Type 0 where
  pub lead : List ℕ
  pub prefix : List ℕ
  pub known : List Bool

-- the nodes below the first one are told there
abbrev pub is_top : Spot → Bool
is_top at = length at.prefix == 0

-- the number of a node, and what leads to it
abbrev pub number_words : Spot → ℕ → Label → List ℕ
number_words at n label = at.lead ++ at.prefix ++ decimal n ++ codes ". " ++ lead_word label ++ name_words label ++ codes ":"

-- what is told of a node begins so
abbrev pub heading_words : Spot → ℕ → Label → List ℕ
heading_words at n Now = codes "No game leads to this position, whoever is to move."
heading_words at n (Step x) = number_words at n (Step x)
heading_words at n (Case k) = number_words at n (Case k)

-- that men never moved
abbrev pub stayed_words : List ℕ → List ℕ
stayed_words list = cond (length list == 0) [] (codes " The" ++ men_words list ++ codes " never moved.")

-- that others didn't either
abbrev pub neither_words : List ℕ → List ℕ
neither_words list = cond (length list == 0) [] (codes ", and neither did the" ++ men_words list)

-- that men never moved, by a right to castle, nor others
abbrev pub kept_words : List ℕ → List ℕ → List ℕ
kept_words kept others = codes " By the right to castle the" ++ men_words kept ++ codes " never moved" ++ neither_words others ++ codes "."

-- the same, if there are any
abbrev pub unmoved_words : List ℕ → List ℕ → List ℕ
unmoved_words kept others = cond (length kept == 0) (stayed_words others) (kept_words kept others)

-- who never moved of those of whom it wasn't said yet
abbrev pub fresh_words : Rights → List Bool → List ℕ
fresh_words held fresh = unmoved_words (set_words (common fresh (held_homes held))) (set_words (without fresh (held_homes held)))

-- something of men, if there are any
abbrev pub said_of : List ℕ → List ℕ → List ℕ
said_of list words = cond (length list == 0) [] (words ++ list ++ codes ".")

-- whose marks are forced
abbrev pub marked_words : List ℕ → List ℕ → List ℕ
marked_words officers pawns =
    said_of officers (codes " These officers aren't promoted pawns:") ++ said_of pawns (codes " These pawns never captured:") ++ codes " Otherwise the captures by pawns wouldn't balance."

-- the letter of a file, if it is exact
abbrev pub file_words : List Bool → ℕ → List ℕ
file_words exact f = cond (is_in exact f) (32 ∷ (97 + f) ∷ []) []

-- the letters of the exact files, each after a space
abbrev pub files_words : List Bool → List ℕ
files_words exact = flat_map (file_words exact) (range_with_len 0 8)

-- a move of a pawn on one of these files, if there are any
abbrev pub or_words : List ℕ → List ℕ
or_words files = cond (length files == 0) [] (codes ", or a move of a pawn on file" ++ files ++ codes ",")

-- what a step is
abbrev pub deed_words : List Bool → List ℕ
deed_words exact = codes "capture by a pawn or promotion" ++ or_words (files_words exact)

-- who can't have moved since the last step, if there are any steps
abbrev pub settled_words : List ℕ → ℕ → List ℕ
settled_words list count =
    cond ((count == 0) || (length list == 0)) [] (codes " Since then the" ++ men_words list ++ codes " can't have moved.")

-- without a step, or, below the first node, without another one
abbrev pub without_words : Bool → List Bool → List ℕ
without_words first exact = cond first (codes " Without a " ++ deed_words exact) (codes " Without another such move")

-- why not all men can have come from home without a step, that there was a last one, and whether there are any
abbrev pub stepped_words : Bool → List Bool → List ℕ → ℕ → List ℕ
stepped_words first exact why count =
    without_words first exact ++ why ++ cond (count == 0) (codes ". But no such move can have been last.") (codes ". So there was such a move. Consider the last one.")

-- of whom it isn't known what he was
abbrev pub unknown_words : ℕ → List ℕ
unknown_words s = codes " The man on " ++ square_text s ++ codes " was a knight, a rook or a queen."

-- who stood on a square at the beginning
abbrev pub foreign_words : List Bool → ℕ → List ℕ
foreign_words odds s = codes " But at the beginning " ++ man_words (man_at (array_of odds) s) ++ codes " stood on " ++ square_text s ++ codes "."
