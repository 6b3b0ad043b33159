-- What the ledger says besides if a right to castle is held.
use Rattle.std.specs.Prelude.{◌≡◌, Bool, true, false, cond, List, [], ◌∷◌, map, Option, Some, None}
use Rattle.std.specs.List.{All, flat_map}
use Rattle.board_base.specs.declared.castles.Castle.{Castle}
use Rattle.query_base.specs.Asked.{Asked}
use Rattle.codex_verdict.specs.declared.kinds.Right.{Right}
use Rattle.codex_verdict.specs.declared.kinds.Right.TheVariants.{Castling, EnPassant}
use Rattle.ledger_told.specs.Held.{TellsIf, with_held}
use Rattle.ledger_told.specs.Line.{Line}
use Rattle.ledger_told.specs.Told.{IsLineTrue}
use Rattle.claim_findings.specs.declared.findings.Finding.{Finding}
use Rattle.claim_findings.specs.declared.findings.Finding.TheVariants.{Proved, Countered, Open, Spent}
use Rattle.diagram_study.specs.declared.held.HeldFound.{HeldFound}
use Rattle.diagram_study.specs.declared.rights.RightFound.{RightFound}

-- a claim that is neither proved nor countered
abbrev pub is_open : Finding → Bool
is_open (Proved depth) = false
is_open Countered = false
is_open Open = true
is_open Spent = true

-- the castling of a right, if it is one
abbrev pub castling_of : Right → Option Castle
castling_of (Castling x) = Some x
castling_of (EnPassant m) = None

-- the castling of a right that is neither proved to be lost nor shown to be kept by a game
abbrev pub unsettled_castling : RightFound → Option Castle
unsettled_castling f = cond (is_open f.finding) (castling_of f.right) None

-- a castling or none
abbrev pub one_castling : Option Castle → List Castle
one_castling None = []
one_castling (Some x) = x ∷ []

-- what the ledger says only if the castling is held, and each line of it is true of every game that reaches the query and keeps it
pub record IsHeldFound (q : Asked) (known : List Line) (h : HeldFound) : Type 0 where
  pub told : TellsIf q known h.castle h.lines.items
  pub true_ : All (IsLineTrue (with_held q h.castle)) h.lines.items

-- that, of each castling that isn't settled, in the order of the rights
pub record AreHeldFound (q : Asked) (known : List Line) (rights : List RightFound) (held : List HeldFound) : Type 0 where
  pub castlings : map (λ h. h.castle) held ≡ flat_map (λ f. one_castling (unsettled_castling f)) rights
  pub each : All (IsHeldFound q known) held
