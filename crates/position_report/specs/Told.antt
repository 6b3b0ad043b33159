-- Inner: no public clause cites this file.
-- Whether the last moves were told, what was found of ends, and which claims were told that stay open.
use Rattle.std.specs.Prelude.{ℕ, ◌≡◌, Bool, true, false, List, ◌++◌, Option, Some, None}
use Rattle.board_base.specs.declared.moves.Move.{Move}
use Rattle.board_base.specs.declared.unmoves.Unmove.{Unmove}
use Rattle.query_base.specs.Asked.{Asked}
use Rattle.diagram_study.specs.Possible.{HasEnds}
use Rattle.verdict_prose.specs.Moves.{line_text}
use Rattle.position_report.specs.Open.{OpenClaim, open_text}
use Rattle.position_report.specs.declared.runs.Run.{Run}

-- there are such moves, and their sentence was added; or there are none, and nothing was
abbrev pub IsLineTold : Asked → Option (List Unmove) → Bool → List ℕ → List ℕ → Type 0
IsLineTold q found true old new = (steps : List Unmove) × (found ≡ Some steps) × (new ≡ old ++ line_text q steps)
IsLineTold q found false old new = (found ≡ None) × (new ≡ old)

-- these were found of the ends of the retractions left, by some games
abbrev pub HaveEnds : Asked → List Unmove → Option (List Unmove) → Type 0
HaveEnds q left found = (by : List (List Move)) × HasEnds q by left found

-- These claims were told behind a run, and leave this run behind them: so whatever follows, the whole is told.
abbrev pub AreTold : Asked → List OpenClaim → Run → Run → List ℕ → List ℕ → Type 0
AreTold q claims before behind old new =
    (rest : List OpenClaim) → new ++ open_text q behind rest ≡ old ++ open_text q before (claims ++ rest)
