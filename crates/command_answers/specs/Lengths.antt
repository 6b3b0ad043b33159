-- What `length` answers.
use Rattle.std.specs.Prelude.{ℕ, ◌≡◌, ◌<◌, ◌≤◌, List, length, codes, Some}
use Rattle.board_base.specs.declared.men.Colour.{Colour}
use Rattle.board_base.specs.declared.men.Colour.TheVariants.{White, Black}
use Rattle.board_base.specs.Board.{men_squares}
use Rattle.query_base.specs.Asked.{Asked}
use Rattle.cert_text.specs.Lines.{cut, ended}
use Rattle.length_bound.specs.LengthText.{AreLengthLines}
use Rattle.length_bound.specs.Longest.{IsBest, longer_side, side_length}
use Rattle.length_bound.specs.declared.texts.LengthText.{LengthText}
use Rattle.question_text.specs.Positions.{IsLonePosition}
use Rattle.command_answers.specs.Questions.{AnswersPlain}
use Rattle.command_answers.specs.declared.statuses.Status.{Status}
use Rattle.command_answers.specs.declared.statuses.Status.TheVariants as status

-- The text says of the query the length that the best potentials of a side show: of the sides of at most sixteen men the one that
-- shows the greater length, and White where they are equal.
pub record TellsLength (q : Asked) (text : List ℕ) : Type 0 where
  pub said : LengthText
  pub best : IsBest q said
  pub side : longer_side (side_length White q) (side_length Black q) ≡ Some said.side
  pub is_text : AreLengthLines (cut text) said

-- the side has more than sixteen men
abbrev pub HasManyMen : Colour → Asked → Type 0
HasManyMen c q = 16 < length (men_squares c q.board)

-- what is said of a query: how long its games are, or that both sides have more than sixteen men
abbrev pub AnswersLengthOf : Asked → Status → List ℕ → Type 0
AnswersLengthOf q status.Done text = TellsLength q text
AnswersLengthOf q status.Undecided text = HasManyMen White q × HasManyMen Black q × (text ≡ ended (codes "undecided"))
AnswersLengthOf q _ text = ⊥

-- the status and the text with which `length` answers these bytes, which are to be the lines of a query without a clock
abbrev pub AnswersLength : List ℕ → Status → List ℕ → Type 0
AnswersLength input status text = AnswersPlain AnswersLengthOf input status text

-- the input is the lines of a query without a clock, of which some side has at most sixteen men
abbrev pub AsksForLength : List ℕ → Type 0
AsksForLength input = (q : Asked) × (c : Colour) × IsLonePosition input q × (length (men_squares c q.board) ≤ 16)
