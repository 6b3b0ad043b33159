-- How long games are, and a game that was found.
use Rattle.std.specs.Prelude.{ℕ, ◌≡◌, ◌<◌, ◌==◌, ◌^◌, Bool, true, false, cond, codes, length, List, [], ◌++◌, Option, Some, None}
use Rattle.std.specs.List.{Contains}
use Rattle.board_base.specs.Board.{opponent}
use Rattle.board_base.specs.declared.moves.Move.{Move}
use Rattle.query_base.specs.Asked.{Asked}
use Rattle.query_base.specs.Reach.{Reaches}
use Rattle.prose_words.specs.Words.{side_word}
use Rattle.proof_story.specs.Rows.{rows_of}
use Rattle.san_text.specs.FromArray.{Tells}
use Rattle.diagram_study.specs.Finding.{Finding}
use Rattle.diagram_study.specs.Finding.TheVariants as finding
use Rattle.verdict_prose.specs.Sentences.{verdict_text}
use Rattle.verdict_prose.specs.Verdicts.{turned}
use Rattle.verdict_prose.specs.declared.verdicts.Verdict.TheVariants.{AtLeast}

-- how many half-moves each game has at least, if it is one or more
abbrev pub length_text : Asked → Option ℕ → List ℕ
length_text q None = []
length_text q (Some n) = cond (n == 0) [] (verdict_text q (AtLeast n))

-- the game reaches the query, and algebraic notation has room for it
abbrev pub LeadsHere : List Move → Asked → Type 0
LeadsHere g q = (length g < 2 ^ 32) × Reaches g q

-- a game in algebraic notation, with what stands before it, where these words say of which position it is
abbrev pub game_words : List ℕ → List ℕ → List ℕ
game_words whose text =
    cond (length text == 0) (codes "The game of no moves leads here" ++ whose ++ codes ".") (codes "A game that leads here" ++ whose ++ codes ": " ++ text)

-- the text is that of one of these games, which leads here
pub record ShowsGame (q : Asked) (whose : List ℕ) (by : List (List Move)) (text : List ℕ) : Type 0 where
  pub game : List Move
  pub among : Contains by game
  pub here : LeadsHere game q
  pub own : List ℕ
  pub told : Tells q.odds own game
  pub text_is : text ≡ rows_of (game_words whose own)

-- a game is shown exactly if one of these leads here
pub record TellsGame (q : Asked) (whose : List ℕ) (by : List (List Move)) (text : List ℕ) : Type 0 where
  pub told : (g : List Move) → Contains by g → LeadsHere g q → ShowsGame q whose by text
  pub untold : ((g : List Move) → Contains by g → LeadsHere g q → ⊥) → text ≡ []

-- that the other side is to move
abbrev pub other_words : Asked → List ℕ
other_words q = codes " with " ++ side_word (opponent q.turn) ++ codes " to move"

-- it is said that a game leads to the position with the other side to move
abbrev pub is_other_told : Finding → Option Finding → Bool
is_other_told finding.Countered None = true
is_other_told _ _ = false

-- one of these games is shown that leads there with the other side to move, if that is told
abbrev pub TellsOther : Asked → List (List Move) → Bool → List ℕ → Type 0
TellsOther q by true text = TellsGame (turned q) (other_words q) by text
TellsOther q by false text = text ≡ []
