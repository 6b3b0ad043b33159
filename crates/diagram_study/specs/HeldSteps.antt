-- Inner: no public clause cites this file.
-- What is added for one castling.
use Rattle.std.specs.Prelude.{◌≡◌, List, [], ◌∷◌, ◌++◌, Option, Some, None}
use Rattle.board_base.specs.declared.castles.Castle.{Castle}
use Rattle.query_base.specs.Asked.{Asked}
use Rattle.ledger_told.specs.Line.{Line}
use Rattle.diagram_study.specs.Held.{IsHeldFound}
use Rattle.diagram_study.specs.declared.held.HeldFound.{HeldFound}

-- what was found of this castling was added, if there is one
abbrev pub AddsHeld : Asked → List Line → Option Castle → List HeldFound → List HeldFound → Type 0
AddsHeld q known None old new = new ≡ old
AddsHeld q known (Some x) old new = (h : HeldFound) × (h.castle ≡ x) × IsHeldFound q known h × (new ≡ old ++ h ∷ [])
