-- Moves that are taken back, and the sentences that tell which the last ones were.
use Rattle.std.specs.Prelude.{ℕ, ◌==◌, Bool, ◌&&◌, not, cond, codes, List, [], ◌∷◌, ◌++◌, length, Option, Some, None, is_some}
use Rattle.std.specs.Fmt.{decimal}
use Rattle.board_base.specs.Board.{Places, at}
use Rattle.board_base.specs.Texts.{square_text}
use Rattle.board_base.specs.declared.castles.Castle.{Castle}
use Rattle.board_base.specs.declared.castles.Castle.TheVariants.{WhiteShort, WhiteLong, BlackShort, BlackLong}
use Rattle.board_base.specs.declared.men.Kind.{Kind}
use Rattle.board_base.specs.declared.unmoves.Unmove.{Unmove}
use Rattle.castle_history.specs.TakenBack.{castling_back}
use Rattle.unmove_gen.specs.TakenBack.{taken_back}
use Rattle.query_base.specs.Asked.{Asked}
use Rattle.prose_words.specs.Words.{kind_word}
use Rattle.proof_story.specs.Movers.{became, mover_initial}
use Rattle.proof_story.specs.Rows.{rows_of}

-- the sign of a castling
abbrev pub castling_sign : Castle → List ℕ
castling_sign WhiteShort = codes "O-O"
castling_sign WhiteLong = codes "O-O-O"
castling_sign BlackShort = codes "O-O"
castling_sign BlackLong = codes "O-O-O"

-- the sign between the squares of another move
abbrev pub taking_sign : Unmove → List ℕ
taking_sign u = cond (is_some u.captured) (codes "x") (codes "-")

-- a man who was captured, in a parenthesis that is still open
abbrev pub victim_words : Bool → Kind → List ℕ
victim_words passing k = cond passing (codes " en passant") (codes " (a " ++ kind_word k)

-- the man who was captured, if one was
abbrev pub taken_words : Option Kind → Bool → List ℕ
taken_words None passing = []
taken_words (Some k) passing = victim_words passing k

-- a move that is no castling, as in `c6xb5 (a knight`
abbrev pub goes_words : Places → Unmove → List ℕ
goes_words board u =
    mover_initial (at board u.mv.to) u.mv.promo ++ square_text u.mv.from ++ taking_sign u ++ square_text u.mv.to ++ became u.mv.promo ++ taken_words u.captured u.ep

-- the castling, if the move was one, or the move
abbrev pub named_words : Option Castle → Places → Unmove → List ℕ
named_words None board u = goes_words board u
named_words (Some x) board u = castling_sign x

-- somebody was captured on the target
abbrev pub has_victim : Unmove → Bool
has_victim u = is_some u.captured && not u.ep

-- what closes the parenthesis, if one is open
abbrev pub closing_sign : Unmove → List ℕ
closing_sign u = cond (has_victim u) (codes ")") []

-- the move that led to this board, as in `c6xb5 (a knight)`
abbrev pub step_words : Places → Unmove → List ℕ
step_words board u = named_words (castling_back board u.mv) board u ++ closing_sign u

-- the move that led to this board behind those before it, in the order of play; those before it are given the last one first
abbrev pub played_words : Places → Unmove → List Unmove → List ℕ
played_words board u [] = step_words board u
played_words board u (v ∷ us) = played_words (taken_back board u) v us ++ codes ", " ++ step_words board u

-- the moves that led to this board, given the last one first
abbrev pub moves_words : Places → List Unmove → List ℕ
moves_words board [] = codes "no move"
moves_words board (u ∷ []) = step_words board u
moves_words board (u ∷ v ∷ us) = played_words (taken_back board u) v us ++ codes " and " ++ step_words board u

-- what is said of so many last moves
abbrev pub were_words : ℕ → List ℕ
were_words n = cond (n == 1) (codes "The last move was ") (codes "The last moves were ")

-- which the last moves were, the retractions given the last move first
abbrev pub line_text : Asked → List Unmove → List ℕ
line_text q steps = rows_of (were_words (length steps) ++ moves_words q.board steps ++ codes ".")

-- with which moves a line ends that stays open
unfoldable pub open_line_words : Places → List Unmove → List ℕ
open_line_words board steps = codes "A line that ends with " ++ moves_words board steps ++ codes " stays open. Before it:"

-- the same before the diagram of what was before them
abbrev pub open_line_text : Asked → List Unmove → List ℕ
open_line_text q steps = rows_of (open_line_words q.board steps)

-- so many remain
abbrev pub remain_word : ℕ → List ℕ
remain_word n = cond (n == 1) (codes " remains") (codes " remain")

-- that all retractions are left
abbrev pub all_left_words : ℕ → List ℕ
all_left_words all = codes "None of the " ++ decimal all ++ codes " conceivable last moves is excluded"

-- that so many of them are
abbrev pub some_left_words : ℕ → ℕ → List ℕ
some_left_words n all = codes "Of the " ++ decimal all ++ codes " conceivable last moves " ++ decimal n ++ remain_word n

-- how many of all retractions are left
abbrev pub left_words : ℕ → ℕ → List ℕ
left_words n all = cond (n == all) (all_left_words all) (some_left_words n all)

-- the same as a sentence
abbrev pub left_text : ℕ → ℕ → List ℕ
left_text n all = rows_of (left_words n all ++ codes ".")
