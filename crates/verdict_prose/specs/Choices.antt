-- Moves of which one was the last, in a sentence: a move that may have captured several men is named once, as in `Ka7xa8 (a knight or a queen)`.
use Rattle.std.specs.Prelude.{ℕ, ◌==◌, Bool, false, ◌&&◌, cond, codes, List, [], ◌∷◌, ◌++◌, length, Option, Some, None, is_none}
use Rattle.std.specs.List.{list_all}
use Rattle.board_base.specs.Board.{Places}
use Rattle.board_base.specs.Legal.{is_move}
use Rattle.board_base.specs.declared.men.Kind.{Kind}
use Rattle.board_base.specs.declared.unmoves.Unmove.{Unmove}
use Rattle.castle_history.specs.TakenBack.{castling_back}
use Rattle.query_base.specs.Asked.{Asked}
use Rattle.prose_words.specs.Words.{kind_word}
use Rattle.proof_story.specs.Rows.{rows_of}
use Rattle.verdict_prose.specs.Moves.{closing_sign, has_victim, named_words}

-- the moves are the same, and each captured somebody on the target
abbrev pub is_again : Unmove → Unmove → Bool
is_again u v = has_victim u && has_victim v && is_move (Some u.mv) v.mv

-- the move is again the one before it, if there is one
abbrev pub follows : Option Unmove → Unmove → Bool
follows None v = false
follows (Some u) v = is_again u v

-- the first of these moves is this one again
abbrev pub goes_on : Unmove → List Unmove → Bool
goes_on u [] = false
goes_on u (v ∷ us) = is_again u v

-- a captured man alone
abbrev pub man_words : Option Kind → List ℕ
man_words None = []
man_words (Some k) = codes "a " ++ kind_word k

-- a move, or whom it captured if it is the one before it again
abbrev pub move_words : Places → Bool → Unmove → List ℕ
move_words board again u = cond again (man_words u.captured) (named_words (castling_back board u.mv) board u)

-- what closes the parenthesis of a move that doesn't go on
abbrev pub end_sign : Bool → Unmove → List ℕ
end_sign on u = cond on [] (closing_sign u)

-- a move among others
abbrev pub listed_words : Places → Bool → Bool → Unmove → List ℕ
listed_words board again on u = move_words board again u ++ end_sign on u

-- What stands before a move: nothing before the first; " or " before the last man of a parenthesis; the word before a move that all others
-- are again; a comma elsewhere.
abbrev pub choice_sign : List ℕ → Bool → Bool → Bool → Bool → List ℕ
choice_sign word first again on last = cond first [] (cond again (cond on (codes ", ") (codes " or ")) (cond last word (codes ", ")))

-- a move between the one before it and those behind it, with what stands before it
abbrev pub one_words : List ℕ → Option Unmove → Places → Unmove → List Unmove → List ℕ
one_words word before board u us =
    choice_sign word (is_none before) (follows before u) (goes_on u us) (list_all (is_again u) us) ++ listed_words board (follows before u) (goes_on u us) u

-- moves that led to this board, behind the one before them
abbrev pub choice_from : List ℕ → Option Unmove → Places → List Unmove → List ℕ
choice_from word before board [] = []
choice_from word before board (u ∷ us) = one_words word before board u us ++ choice_from word (Some u) board us

-- that the last move was one of these
unfoldable pub last_words : Places → List Unmove → List ℕ
last_words board left = codes "The last move was " ++ choice_from (codes " or ") None board left ++ codes "."

-- the same in rows
abbrev pub last_text : Asked → List Unmove → List ℕ
last_text q left = rows_of (last_words q.board left)

-- that games end with all of so many moves
abbrev pub each_words : ℕ → List ℕ
each_words n = cond (n == 1) (codes "There is a game that ends with it") (codes "There are games that end with each of them")

-- that games end with so many of them
abbrev pub some_words : ℕ → List ℕ
some_words n = cond (n == 1) (codes "There is a game that ends with ") (codes "There are games that end with ")

-- with which of so many moves games end
abbrev pub ends_words : Places → List Unmove → ℕ → List ℕ
ends_words board ends left =
    cond (length ends == left) (each_words left) (some_words (length ends) ++ choice_from (codes " and ") None board ends)

-- the same as a sentence, if there are any
abbrev pub ends_text : Asked → List Unmove → ℕ → List ℕ
ends_text q ends left = cond (length ends == 0) [] (rows_of (ends_words q.board ends left ++ codes "."))
