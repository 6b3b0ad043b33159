-- The lines of a study.
use Rattle.std.specs.Prelude.{ℕ, cond, nat_le, List, [], ◌∷◌, ◌++◌, codes, length, Option, Some, None}
use Rattle.std.specs.List.{flat_map}
use Rattle.std.specs.Fmt.{decimal}
use Rattle.board_base.specs.Texts.{unmove_words}
use Rattle.board_base.specs.declared.unmoves.Unmove.{Unmove}
use Rattle.query_base.specs.declared.claims.Claim.TheVariants.{Illegal, Last, Lost, Ep}
use Rattle.board_base.specs.declared.castles.Castle.{Castle}
use Rattle.cert_text.specs.Lines.{ended}
use Rattle.codex_verdict.specs.declared.kinds.Right.{Right}
use Rattle.codex_verdict.specs.declared.kinds.Right.TheVariants.{Castling, EnPassant}
use Rattle.line_claims.specs.declared.claims.LineClaim.TheVariants.{NotBoth}
use Rattle.claim_findings.specs.Findings.{is_proved}
use Rattle.claim_findings.specs.Lines.{decided_lines, decided_steps, found_line, steps_line}
use Rattle.claim_findings.specs.declared.findings.Finding.{Finding}
use Rattle.fen_text.specs.Fen.{castle_letter}
use Rattle.ledger_told.specs.Line.{Line}
use Rattle.ledger_told.specs.Told.{lines_text, whole_text}
use Rattle.diagram_study.specs.declared.findings.Findings.{Findings}
use Rattle.diagram_study.specs.declared.findings.Findings.TheVariants.{Impossible, Unproved}
use Rattle.diagram_study.specs.declared.findings.Found.{Found}
use Rattle.diagram_study.specs.declared.forced.StepsFound.{StepsFound}
use Rattle.diagram_study.specs.declared.held.HeldFound.{HeldFound}
use Rattle.diagram_study.specs.declared.pairs.PairFound.{PairFound}
use Rattle.diagram_study.specs.declared.retractions.MoveFound.{MoveFound}
use Rattle.diagram_study.specs.declared.rights.RightFound.{RightFound}

-- the lines of a right where it is that of a castling, and nothing of another
abbrev pub castling_line : Finding → Option (List Unmove) → Right → List ℕ
castling_line finding stuck (Castling x) = decided_lines finding stuck (Lost x)
castling_line finding stuck (EnPassant m) = []

-- the lines of a right where it is that of a capture en passant, and nothing of another
abbrev pub capture_line : Finding → Option (List Unmove) → Right → List ℕ
capture_line finding stuck (Castling x) = []
capture_line finding stuck (EnPassant m) = decided_lines finding stuck (Ep m)

-- the lines that tell what was found of castlings, in order
unfoldable pub castling_lines : List RightFound → List ℕ
castling_lines found = flat_map (λ f. castling_line f.finding f.stuck f.right) found

-- the lines that tell what was found of captures en passant, in order
unfoldable pub capture_lines : List RightFound → List ℕ
capture_lines found = flat_map (λ f. capture_line f.finding f.stuck f.right) found

-- the lines that tell what was found of two castlings each, in order
unfoldable pub pair_lines : List PairFound → List ℕ
pair_lines found = flat_map (λ f. decided_steps f.finding f.stuck (NotBoth f.first f.second)) found

-- the line of the last move, where it is proved
abbrev pub move_line : MoveFound → List ℕ
move_line f = cond (is_proved f.finding) (found_line f.finding (Last f.mv)) []

-- that line, or nothing if the unmoves left have no move in common
abbrev pub last_text : Option MoveFound → List ℕ
last_text None = []
last_text (Some f) = move_line f

-- the line of the last moves, where they are proved
abbrev pub moves_line : StepsFound → List ℕ
moves_line f = cond (is_proved f.finding) (steps_line f.finding f.claim) []

-- that line, or nothing if fewer than two are forced
abbrev pub steps_text : Option StepsFound → List ℕ
steps_text None = []
steps_text (Some f) = moves_line f

-- the unmoves themselves where they are at most 24
abbrev pub few_words : List Unmove → List ℕ
few_words us = cond (nat_le (length us) 24) (unmove_words us) []

-- the line that tells how many of so many unmoves are left, and which
abbrev pub left_line : List Unmove → ℕ → List ℕ
left_line left all = ended (codes "left " ++ decimal (length left) ++ codes " of " ++ decimal all ++ few_words left)

-- the line that tells with which of so many unmoves some game ends
abbrev pub possible_line : List Unmove → ℕ → List ℕ
possible_line ends left = ended (codes "possible " ++ decimal (length ends) ++ codes " of " ++ decimal left ++ unmove_words ends)

-- that line, or nothing if ends weren't looked for
abbrev pub ends_text : Option (List Unmove) → ℕ → List ℕ
ends_text None left = []
ends_text (Some ends) left = possible_line ends left

-- a line of the ledger that is so if the castling is held
abbrev pub if_line : Castle → Line → List ℕ
if_line x line = codes "if " ++ (castle_letter x ∷ []) ++ codes " " ++ whole_text line

-- lines of the ledger that are so if the castling is held, one behind the other
unfoldable pub if_lines : Castle → List Line → List ℕ
if_lines x lines = flat_map (if_line x) lines

-- what the ledger says only if a castling is held, castling by castling
unfoldable pub held_text : List HeldFound → List ℕ
held_text held = flat_map (λ h. if_lines h.castle h.lines.items) held

-- the line that tells how many half-moves there are at least
abbrev pub length_line : ℕ → List ℕ
length_line n = ended (codes "atleast " ++ decimal n)

-- that line, or nothing if no length is known
abbrev pub length_text : Option ℕ → List ℕ
length_text None = []
length_text (Some n) = length_line n

-- the line before what is found without demands
abbrev pub plain_line : List ℕ
plain_line = ended (codes "without demands")

-- the line that tells what was found of the other side's position
abbrev pub other_line : Finding → List ℕ
other_line finding = codes "other side " ++ found_line finding Illegal

-- The text of what is found of a position that isn't proved to be illegal: of that claim, of castlings, of two of them each, of captures en
-- passant, of the last move and of those before it, which retractions are left, with which of them games end, the lines of the ledger, those
-- that are so if a castling is held, and how long games are.
abbrev pub found_text : Found → List ℕ
found_text f =
    decided_lines f.illegal.finding f.illegal.stuck Illegal ++ castling_lines f.rights.items ++ pair_lines f.pairs.items ++ capture_lines f.rights.items ++ last_text f.last ++ steps_text f.steps ++ left_line f.left f.all ++ ends_text f.ends (length f.left) ++ lines_text f.ledger.items ++ held_text f.held.items ++ length_text f.length

-- the text of what is found: of a position that is illegal that it is, and what was found with the other side to move
abbrev pub findings_text : Findings → List ℕ
findings_text (Impossible finding against) = found_line finding Illegal ++ other_line against
findings_text (Unproved f) = found_text f
