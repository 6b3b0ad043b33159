-- How to ask for a report of the position without what is given.
use Rattle.std.specs.Prelude.{ℕ, cond, codes, List, [], ◌++◌, Option, Some, None}
use Rattle.query_base.specs.Asked.{Asked}
use Rattle.diagram_study.specs.Finding.{Finding}
use Rattle.diagram_study.specs.Studies.{without_demands}
use Rattle.position_report.specs.Proofs.{call_text, position_lines}
use Rattle.position_report.specs.Sayings.{has_last}

-- a call of `report` for the position, behind these words
abbrev pub ask_text : List ℕ → Asked → ℕ → ℕ → List ℕ
ask_text words q depth nodes =
    call_text words depth nodes (codes " << END\n") ++ position_lines q ++ codes "END\n"

-- the query without the last move that is demanded
abbrev pub last_left_out : Asked → Asked
last_left_out q = record q { only = None }

-- that a last move is given, and how to ask for a report without it, if one is
abbrev pub last_ask : Asked → ℕ → ℕ → List ℕ
last_ask q depth nodes =
    cond (has_last q) (ask_text (codes "The last move is given, and nothing is proved of it here. For a report without it:\nretractor report ") (last_left_out q) depth nodes) []

-- how to ask for a report without the demands, by what was found of that, if there are any
abbrev pub plain_ask : Asked → ℕ → ℕ → Option Finding → List ℕ
plain_ask q depth nodes None = []
plain_ask q depth nodes (Some found) =
    ask_text (codes "For a report without what is given:\nretractor report ") (without_demands q) depth nodes
