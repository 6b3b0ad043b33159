-- Inner: no public clause cites this file.
-- The lines of a position, one after another: what was read of them.
use Rattle.std.specs.Prelude.{ℕ, ◌≡◌, ◌≢◌, ◌+◌, ◌⊎◌, Bool, List, [], Option, Some, None}
use Rattle.board_base.specs.Board.{no_odds}
use Rattle.query_base.specs.Asked.{Asked}
use Rattle.fen_text.specs.Fen.{fen}
use Rattle.fen_text.specs.FenFaults.{IsFenFault}
use Rattle.question_text.specs.InputLines.{first_line}
use Rattle.question_text.specs.Questions.{Agree}
use Rattle.question_text.specs.declared.faults.InputFault.{InputFault}
use Rattle.question_text.specs.declared.faults.InputFault.TheVariants.{BadLine, BadFen}

-- the first line is a FEN of this query but for odds and clock, which are these, and its number is the clock's, where both are given
pub record IsPosition (odds : List Bool) (clock : Option ℕ) (input : List ℕ) (q : Asked) : Type 0 where
  pub odds_are : q.odds ≡ odds
  pub clock_is : q.clock ≡ clock
  pub numbers : Option (ℕ × ℕ)
  pub position : fen (first_line input) ≡ Some (record q { odds = no_odds; clock = None }, numbers)
  pub agree : Agree q.clock numbers

-- the FEN's number is another than the clock's
abbrev pub HasOther : List Bool → Option ℕ → List ℕ → Type 0
HasOther odds clock input =
    (q : Asked) × (numbers : Option (ℕ × ℕ)) × (q.odds ≡ odds) × (q.clock ≡ clock) × (fen (first_line input) ≡ Some (record q { odds = no_odds; clock = None }, numbers)) × (Agree q.clock numbers → ⊥)

-- Behind so many lines the input has no line; or its FEN has another number than the clock line just before it; or its first line isn't
-- FEN, by this fault.
abbrev pub IsNoPosition : List Bool → Option ℕ → ℕ → List ℕ → InputFault → Type 0
IsNoPosition odds clock before input (BadLine n) = ((input ≡ []) × (n ≡ before + 1)) ⊎ (HasOther odds clock input × (n ≡ before))
IsNoPosition odds clock before input (BadFen fault) = (input ≢ []) × IsFenFault fen (first_line input) fault
