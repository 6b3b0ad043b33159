-- Inputs of the lines of a position without a clock: its odds, where these are named, and its FEN.
use Rattle.std.specs.Prelude.{ℕ, ◌≡◌, ◌≢◌, ◌+◌, ◌⊎◌, Bool, List, [], Option, Some, None}
use Rattle.board_base.specs.Board.{no_odds}
use Rattle.query_base.specs.Asked.{Asked}
use Rattle.fen_text.specs.Fen.{fen}
use Rattle.fen_text.specs.FenFaults.{IsFenFault}
use Rattle.fen_text.specs.declared.faults.FenFault.{FenFault}
use Rattle.question_text.specs.InputLines.{after_first, first_line}
use Rattle.question_text.specs.Questions.{HasBadOdds, after_odds, before_clock, odds_named}
use Rattle.question_text.specs.declared.faults.InputFault.{InputFault}
use Rattle.question_text.specs.declared.faults.InputFault.TheVariants.{BadLine, BadFen}

-- the input names these odds, or none, and its next line is a FEN of this query, which demands no clock
pub record AsksWithoutClock (input : List ℕ) (q : Asked) : Type 0 where
  pub odds : odds_named input ≡ Some q.odds
  pub clock : q.clock ≡ None
  pub numbers : Option (ℕ × ℕ)
  pub position : fen (first_line (after_odds input)) ≡ Some (record q { odds = no_odds; clock = None }, numbers)

-- what follows the FEN's line
abbrev pub after_position : List ℕ → List ℕ
after_position input = after_first (after_odds input)

-- the input is the lines of this query, which demands no clock, and no more
pub record IsLonePosition (input : List ℕ) (q : Asked) : Type 0 where
  pub begins : AsksWithoutClock input q
  pub no_more : after_position input ≡ []

-- behind a good line of odds, or none, there is no line
abbrev pub HasNoLine : List ℕ → ℕ → Type 0
HasNoLine input n = (odds : List Bool) × (odds_named input ≡ Some odds) × (after_odds input ≡ []) × (n ≡ before_clock input + 1)

-- behind the lines of a query there is one more, of this number
abbrev pub HasOneMore : List ℕ → ℕ → Type 0
HasOneMore input n = (q : Asked) × AsksWithoutClock input q × (after_position input ≢ []) × (n ≡ before_clock input + 2)

-- behind a good line of odds, or none, there is a line that isn't FEN, by this fault
pub record HasBadPosition (input : List ℕ) (fault : FenFault) : Type 0 where
  pub odds : List Bool
  pub named : odds_named input ≡ Some odds
  pub there : after_odds input ≢ []
  pub is_fault : IsFenFault fen (first_line (after_odds input)) fault

-- the input isn't the lines of a query without a clock, by this fault
abbrev pub IsNoLonePosition : List ℕ → InputFault → Type 0
IsNoLonePosition input (BadLine n) = HasBadOdds input n ⊎ (HasNoLine input n ⊎ HasOneMore input n)
IsNoLonePosition input (BadFen fault) = HasBadPosition input fault
