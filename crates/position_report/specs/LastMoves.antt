-- What a report says of the last moves.
use Rattle.std.specs.Prelude.{ℕ, ◌≡◌, ◌≤◌, ◌⊎◌, false, cond, IfSome, MatchOption, List, [], ◌∷◌, ◌++◌, length, Option, Some, None}
use Rattle.std.specs.List.{All}
use Rattle.board_base.specs.declared.unmoves.Unmove.{Unmove}
use Rattle.query_base.specs.Asked.{Asked}
use Rattle.query_base.specs.Reach.{Reaches}
use Rattle.line_claims.specs.declared.claims.LineClaim.{LineClaim}
use Rattle.line_claims.specs.declared.claims.LineClaim.TheVariants.{NotBoth, Line}
use Rattle.diagram_study.specs.ClaimFindings.{is_proved}
use Rattle.diagram_study.specs.declared.findings.Found.{Found}
use Rattle.diagram_study.specs.declared.forced.StepsFound.{StepsFound}
use Rattle.verdict_prose.specs.LastMoves.{IsEnd, Remain, WasOneOf, WereLast}
use Rattle.verdict_prose.specs.Choices.{ends_text, last_text}
use Rattle.verdict_prose.specs.Moves.{left_text, line_text}
use Rattle.position_report.specs.Sayings.{has_last}

-- the steps of a claim, if it is one about the last moves
abbrev pub steps_in : LineClaim → Option (List Unmove)
steps_in (NotBoth x y) = None
steps_in (Line steps) = Some steps

-- the last moves, if several are proved
abbrev pub proved_steps : Option StepsFound → Option (List Unmove)
proved_steps None = None
proved_steps (Some f) = cond (is_proved f.finding) (steps_in f.claim) None

-- with which of so many retractions games end, if it is known
abbrev pub possible_text : Asked → Option (List Unmove) → ℕ → List ℕ
possible_text q None left = []
possible_text q (Some ends) left = ends_text q ends left

-- Several last moves are proved: each game ends by them.
pub record TellsLine (q : Asked) (f : Found) (text : List ℕ) : Type 0 where
  pub steps : List Unmove
  pub are : proved_steps f.steps ≡ Some steps
  pub so : WereLast q steps
  pub text_is : text ≡ line_text q steps

-- One to 24 retractions are left, and the game of no moves doesn't reach the query.
pub record CanBeNamed (q : Asked) (left : List Unmove) : Type 0 where
  pub some : 1 ≤ length left
  pub few : length left ≤ 24
  pub elsewhere : Reaches [] q → ⊥

-- One retraction alone is left, it can be named, and no last move is given.
pub record IsLone (q : Asked) (left : List Unmove) : Type 0 where
  pub one : length left ≡ 1
  pub named : CanBeNamed q left
  pub free : has_last q ≡ false

-- it is this retraction, or it isn't so
abbrev pub HasLone : Asked → List Unmove → Option Unmove → Type 0
HasLone q left lone = MatchOption lone (IsLone q left → ⊥) (λ u. IsLone q left × (left ≡ u ∷ []))

-- None are, and those left can be named: the last move of each game is one of them, and with some of them games end, if that was asked.
pub record TellsFew (q : Asked) (f : Found) (text : List ℕ) : Type 0 where
  pub none : proved_steps f.steps ≡ None
  pub few : CanBeNamed q f.left
  pub so : WasOneOf q f.left
  pub ends : IfSome f.ends (All (IsEnd q))
  pub text_is : text ≡ last_text q f.left ++ possible_text q f.ends (length f.left)

-- None are, and many or none are left, or the game of no moves leads to the position: how many are left.
pub record TellsMany (q : Asked) (f : Found) (text : List ℕ) : Type 0 where
  pub none : proved_steps f.steps ≡ None
  pub many : CanBeNamed q f.left → ⊥
  pub so : Remain q f.left (length f.left) f.all
  pub text_is : text ≡ left_text (length f.left) f.all

-- what is said of the last moves, and that it is so
abbrev pub TellsLast : Asked → Found → List ℕ → Type 0
TellsLast q f text = TellsLine q f text ⊎ (TellsFew q f text ⊎ TellsMany q f text)
