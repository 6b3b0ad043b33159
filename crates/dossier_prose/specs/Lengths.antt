-- A length in words.
use Rattle.std.specs.Prelude.{ℕ, ◌≡◌, ◌==◌, ◌<◌, ◌≤◌, ◌⊎◌, Bool, cond, List, [], ◌∷◌, ◌++◌, codes, length, Option, Some}
use Rattle.std.specs.Fmt.{decimal}
use Rattle.std.specs.List.{range_with_len}
use Rattle.assignment.specs.Assignments.{IsInjection, assignment_cost, least_cost}
use Rattle.board_base.specs.Board.{Places, at, home_of, is_of, men_squares}
use Rattle.board_base.specs.Texts.{square_text}
use Rattle.board_base.specs.declared.men.Colour.{Colour}
use Rattle.board_base.specs.declared.men.Colour.TheVariants.{White, Black}
use Rattle.board_base.specs.declared.men.Man.{Man}
use Rattle.board_base.specs.declared.moves.Move.{Move}
use Rattle.query_base.specs.Asked.{Asked}
use Rattle.query_base.specs.Reach.{Reaches}
use Rattle.length_bound.specs.Longest.{side_length}
use Rattle.length_bound.specs.SideBounds.{holds_some, move_costs, place_cost}
use Rattle.length_bound.specs.declared.texts.LengthText.{LengthText}
use Rattle.proof_prose.specs.Heads.{drawn_text}
use Rattle.proof_story.specs.Rows.{rows_of}
use Rattle.prose_words.specs.Words.{place_initial, side_word}

-- from which home a man comes, and in how many moves
abbrev pub from_words : ℕ → ℕ → List ℕ
from_words cost home = codes " from " ++ square_text home ++ codes " " ++ decimal cost ++ codes ", "

-- the same; 64 is more than any man needs
abbrev pub cost_words : ℕ → ℕ → List ℕ
cost_words cost home = cond (cost == 64) (codes " from no home 64, ") (from_words cost home)

-- a man who needs some moves
abbrev pub need_words : Option Man → ℕ → ℕ → ℕ → List ℕ
need_words place s home cost = place_initial place ++ square_text s ++ cost_words cost home

-- what the man on this place of s needs from a home, if he needs anything
abbrev pub way_words : List Bool → Option Man → ℕ → ℕ → List ℕ
way_words o place s home = cond (place_cost o place s home == 0) [] (need_words place s home (place_cost o place s home))

-- What the men of a side on these squares need, one after another, from the homes with these numbers among the side's sixteen.
unfoldable pub ways_words : List Bool → Colour → Places → List ℕ → List ℕ → List ℕ
ways_words o c board [] homes = []
ways_words o c board (s ∷ squares) [] = []
ways_words o c board (s ∷ squares) (j ∷ homes) =
    cond (is_of c (at board s)) (way_words o (at board s) s (home_of c j) ++ ways_words o c board squares homes) (ways_words o c board squares (j ∷ homes))

-- the letter behind a word for several things
abbrev pub plural : ℕ → List ℕ
plural n = cond (n == 1) [] (codes "s")

-- so many things of a kind
abbrev pub counted : ℕ → List ℕ → List ℕ
counted n kind = decimal n ++ codes " " ++ kind ++ plural n

-- what castling may have saved of so many moves, if there are any: nothing if a right to castle is kept
abbrev pub saved_words : Bool → ℕ → List ℕ
saved_words kept sum = cond (sum == 0) [] (cond kept (codes ", of which castling saved none, since a right to castle is kept") (codes ", of which castling may have saved up to 2"))

-- what the men of a side need with these homes, the sum, and how long a game is at least
abbrev pub side_line : Asked → Colour → List ℕ → ℕ → ℕ → List ℕ
side_line q c homes sum n =
    side_word c ++ codes ": " ++ ways_words q.odds c q.board (range_with_len 0 64) homes ++ codes "in all " ++ counted sum (codes "move") ++ saved_words (holds_some c q.held) sum ++ codes ". So each game has at least " ++ counted n (codes "half-move") ++ codes "."

-- Homes of their own for the men of a side, in ascending order of the men's squares, from which they need the fewest moves in all.
pub record AreCheapest (c : Colour) (q : Asked) (homes : List ℕ) : Type 0 where
  pub injection : IsInjection 16 (length (move_costs q.odds c q.board)) homes
  pub least : assignment_cost (move_costs q.odds c q.board) homes ≡ least_cost 16 (move_costs q.odds c q.board)

-- the rows of a side with these homes
abbrev pub shown_text : Colour → Asked → List ℕ → ℕ → List ℕ
shown_text c q homes n = rows_of (side_line q c homes (least_cost 16 (move_costs q.odds c q.board)) n)

-- the side has at most sixteen men, who show that each game has at least so many half-moves
pub record IsShownBy (c : Colour) (q : Asked) (n : ℕ) : Type 0 where
  pub few : length (men_squares c q.board) ≤ 16
  pub length_is : side_length c q ≡ Some n
  pub least : (g : List Move) → Reaches g q → n ≤ length g

-- that a side has too many men
abbrev pub many_text : Colour → List ℕ
many_text c = side_word c ++ codes " has more than sixteen men, of whom nothing is counted.\n"

-- what the men of a side need is told: from homes of their own that are cheapest for all, and how long each game is at least then; or that
-- there are more than sixteen
abbrev pub TellsSide : Colour → Asked → List ℕ → Type 0
TellsSide c q text =
    ((n : ℕ) × (homes : List ℕ) × IsShownBy c q n × AreCheapest c q homes × (text ≡ shown_text c q homes n))
    ⊎ ((16 < length (men_squares c q.board)) × (text ≡ many_text c))

-- the claim, and how men are counted
abbrev pub claim_text : ℕ → List ℕ
claim_text n =
    codes "Claim: each game that leads here has at least " ++ counted n (codes "half-move") ++ codes ".\nThe moves that each man needs, alone on an empty board, from homes that make their sum least:\n"

-- the claim again
abbrev pub end_text : ℕ → List ℕ
end_text n = codes "So no game that leads here is shorter than " ++ counted n (codes "half-move") ++ codes ". QED\n"

-- What the text of a length says is told: the diagram with what is given beside it, and the claim; what the men of each side need; and the
-- claim again.
pub record ExplainsLength (said : LengthText) (text : List ℕ) : Type 0 where
  pub white : List ℕ
  pub black : List ℕ
  pub white_told : TellsSide White said.query white
  pub black_told : TellsSide Black said.query black
  pub whole : text ≡ drawn_text said.query ++ claim_text said.at_least ++ white ++ black ++ end_text said.at_least
