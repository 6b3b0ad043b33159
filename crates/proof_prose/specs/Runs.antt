-- Inner: no public clause cites this file.
-- Runs of nodes that are told together.
use Rattle.std.specs.Prelude.{◌≡◌, true, false, List, [], ◌∷◌}
use Rattle.proof_prose.specs.Paragraphs.{Paragraph, joins}
use Rattle.proof_prose.specs.declared.bodies.Spoken.{Spoken}

-- no nodes are left, or the first of them isn't told with this one
abbrev pub StopsAt : Spoken → List Spoken → Type 0
StopsAt s [] = Unit {0}
StopsAt s (t ∷ rest) = joins s t ≡ false

-- each of the others is told with the one before, and the first of the rest isn't told with the last
abbrev pub IsRun : Spoken → List Spoken → List Spoken → Type 0
IsRun s [] rest = StopsAt s rest
IsRun s (t ∷ others) rest = (joins s t ≡ true) × IsRun t others rest

-- the paragraph of these nodes
abbrev pub run_of : Spoken → List Spoken → Paragraph
run_of s others = record { first = s; others = others }
