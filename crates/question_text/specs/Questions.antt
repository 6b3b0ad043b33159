-- Inputs that begin with the lines of a position: its odds and its half-move clock, where these are named, and its FEN.
use Rattle.std.specs.Prelude.{ℕ, ◌≡◌, ◌≢◌, ◌+◌, ◌⊎◌, Bool, cond, nat_eq, List, [], codes, IfSome, Option, Some, None}
use Rattle.std.specs.List.{starts_with}
use Rattle.std.specs.Option.{option_map}
use Rattle.board_base.specs.Board.{no_odds}
use Rattle.query_base.specs.Asked.{Asked}
use Rattle.fen_text.specs.ClockLines.{clock_line}
use Rattle.fen_text.specs.Fen.{fen}
use Rattle.fen_text.specs.FenFaults.{IsFenFault}
use Rattle.fen_text.specs.OddsLines.{odds_line}
use Rattle.fen_text.specs.declared.faults.FenFault.{FenFault}
use Rattle.question_text.specs.InputLines.{after_first, first_line}
use Rattle.question_text.specs.declared.faults.InputFault.{InputFault}
use Rattle.question_text.specs.declared.faults.InputFault.TheVariants.{BadLine, BadFen}

-- the first line begins as one that names odds does
abbrev pub names_odds : List ℕ → Bool
names_odds input = starts_with nat_eq (first_line input) (codes "odds ")

-- the odds that it names; no odds where it doesn't begin so, and nothing if it is no odds line all the same
abbrev pub odds_named : List ℕ → Option (List Bool)
odds_named input = cond (names_odds input) (odds_line (first_line input)) (Some no_odds)

-- what follows the odds line, if there is one
abbrev pub after_odds : List ℕ → List ℕ
after_odds input = cond (names_odds input) (after_first input) input

-- the first line begins as one that says what the clock is
abbrev pub names_clock : List ℕ → Bool
names_clock lines = starts_with nat_eq (first_line lines) (codes "clock ")

-- the clock that it says; none is demanded where it doesn't begin so, and nothing is said where it is no clock line all the same
abbrev pub clock_named : List ℕ → Option (Option ℕ)
clock_named lines = cond (names_clock lines) (option_map (λ n. Some n) (clock_line (first_line lines))) (Some None)

-- what follows the clock line, if there is one
abbrev pub after_clock : List ℕ → List ℕ
after_clock lines = cond (names_clock lines) (after_first lines) lines

-- the input from the line on that is due as a FEN
abbrev pub from_fen : List ℕ → List ℕ
from_fen input = after_clock (after_odds input)

-- how many lines stand before the clock's
abbrev pub before_clock : List ℕ → ℕ
before_clock input = cond (names_odds input) 1 0

-- how many lines stand before the FEN's
abbrev pub before_fen : List ℕ → ℕ
before_fen input = before_clock input + cond (names_clock (after_odds input)) 1 0

-- what follows the FEN's line
abbrev pub after_question : List ℕ → List ℕ
after_question input = after_first (from_fen input)

-- where a clock is demanded, and a FEN has numbers, its first number, the half-move clock, is this clock
abbrev pub Agree : Option ℕ → Option (ℕ × ℕ) → Type 0
Agree clock numbers = IfSome clock (λ n. IfSome numbers (λ pair. pair.0 ≡ n))

-- the FEN line says all of this query but odds and clock, with these numbers or none
abbrev pub SaysPosition : List ℕ → Asked → Option (ℕ × ℕ) → Type 0
SaysPosition input q numbers = fen (first_line (from_fen input)) ≡ Some (record q { odds = no_odds; clock = None }, numbers)

-- the input begins with the lines of this query
pub record Asks (input : List ℕ) (q : Asked) : Type 0 where
  pub odds : odds_named input ≡ Some q.odds
  pub clock : clock_named (after_odds input) ≡ Some q.clock
  pub numbers : Option (ℕ × ℕ)
  pub position : SaysPosition input q numbers
  pub agree : Agree q.clock numbers

-- the lines of odds and clock are good, if there are any
pub record BeginsWell (input : List ℕ) (odds : List Bool) (clock : Option ℕ) : Type 0 where
  pub odds_are : odds_named input ≡ Some odds
  pub clock_is : clock_named (after_odds input) ≡ Some clock

-- the odds line is none
abbrev pub HasBadOdds : List ℕ → ℕ → Type 0
HasBadOdds input n = (odds_named input ≡ None) × (n ≡ 1)

-- behind good odds the clock line is none
abbrev pub HasBadClock : List ℕ → ℕ → Type 0
HasBadClock input n = (odds : List Bool) × (odds_named input ≡ Some odds) × (clock_named (after_odds input) ≡ None) × (n ≡ before_clock input + 1)

-- behind good lines of odds and clock there is no line
abbrev pub HasNoFen : List ℕ → ℕ → Type 0
HasNoFen input n = (odds : List Bool) × (clock : Option ℕ) × BeginsWell input odds clock × (from_fen input ≡ []) × (n ≡ before_fen input + 1)

-- the FEN has another number than the clock line just before it, which is named
abbrev pub HasOtherClock : List ℕ → ℕ → Type 0
HasOtherClock input n =
    (q : Asked) × (numbers : Option (ℕ × ℕ)) × BeginsWell input q.odds q.clock × SaysPosition input q numbers × (Agree q.clock numbers → ⊥) × (n ≡ before_fen input)

-- the line of this number is bad, or missing
abbrev pub HasBadLine : List ℕ → ℕ → Type 0
HasBadLine input n = HasBadOdds input n ⊎ (HasBadClock input n ⊎ (HasNoFen input n ⊎ HasOtherClock input n))

-- behind good lines of odds and clock there is a line that isn't FEN, by this fault
pub record HasBadFen (input : List ℕ) (fault : FenFault) : Type 0 where
  pub odds : List Bool
  pub clock : Option ℕ
  pub begins : BeginsWell input odds clock
  pub there : from_fen input ≢ []
  pub is_fault : IsFenFault fen (first_line (from_fen input)) fault

-- the input doesn't begin with the lines of a query, by this fault
abbrev pub IsNoQuestion : List ℕ → InputFault → Type 0
IsNoQuestion input (BadLine n) = HasBadLine input n
IsNoQuestion input (BadFen fault) = HasBadFen input fault

-- the input is the lines of this query, and no more
pub record AsksAlone (input : List ℕ) (q : Asked) : Type 0 where
  pub begins : Asks input q
  pub no_more : after_question input ≡ []

-- behind the lines of a query there is one more, of this number
abbrev pub HasLineTooMany : List ℕ → ℕ → Type 0
HasLineTooMany input n = (q : Asked) × Asks input q × (after_question input ≢ []) × (n ≡ before_fen input + 2)

-- the input isn't the lines of a query, by this fault
abbrev pub IsNoLoneQuestion : List ℕ → InputFault → Type 0
IsNoLoneQuestion input (BadLine n) = HasBadLine input n ⊎ HasLineTooMany input n
IsNoLoneQuestion input (BadFen fault) = HasBadFen input fault

-- the input is the lines of some query, and no more
abbrev pub AsksForOne : List ℕ → Type 0
AsksForOne input = (q : Asked) × AsksAlone input q
