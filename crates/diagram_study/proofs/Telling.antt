-- The texts of what is found, one behind the other.
use Rattle.std.proofs.Common.{◌≡◌, ℕ, Bool, true, List, [], ◌++◌, length, refl, ap, subst, ◌∙◌, append_assoc}
use Rattle.std.specs.Prelude.{◌&&◌, IsTrue}
use Rattle.board_base.specs.declared.moves.Move.{Move}
use Rattle.query_base.specs.Asked.{Asked}
use Rattle.query_base.specs.declared.claims.Claim.TheVariants.{Illegal}
use Rattle.ledger_told.specs.Told.{lines_text}
use Rattle.claim_findings.specs.Findings.{is_proved}
use Rattle.claim_findings.specs.Lines.{decided_lines}
use Rattle.claim_findings.specs.declared.findings.Finding.{Finding}
use Rattle.diagram_study.specs.Findings.{IsFoundOf, finding_of}
use Rattle.diagram_study.specs.Studies.{IsStudy, TellsAgain, TellsPlain, TellsPosition, makes_demands, without_demands}
use Rattle.diagram_study.specs.Texts.{capture_lines, castling_lines, ends_text, findings_text, found_text, held_text, last_text, left_line, length_text, pair_lines, plain_line, steps_text}
use Rattle.diagram_study.specs.declared.findings.Findings.{Findings}
use Rattle.diagram_study.specs.declared.findings.Found.{Found}

-- a piece more behind what stood there
pub joins : (front first second old new : List ℕ) → old ≡ front ++ first → new ≡ old ++ second → new ≡ front ++ (first ++ second)
joins front first second old new e f = f ∙ ap (λ (l : List ℕ). l ++ second) e ∙ append_assoc front first second

-- the text of one pair, behind what stood there
abbrev pub Told : (List ℕ → Type 0) → List ℕ → List ℕ → Type 0
Told Tells old new = (own : List ℕ) × Tells own × (new ≡ old ++ own)

-- the texts of all that is found, one behind the other
pub all_told : (f : Found) (t u v w x y z a b d e h : List ℕ) → u ≡ t ++ decided_lines f.illegal.finding f.illegal.stuck Illegal → v ≡ u ++ castling_lines f.rights.items → w ≡ v ++ pair_lines f.pairs.items → x ≡ w ++ capture_lines f.rights.items → y ≡ x ++ last_text f.last → z ≡ y ++ steps_text f.steps → a ≡ z ++ left_line f.left f.all → b ≡ a ++ ends_text f.ends (length f.left) → d ≡ b ++ lines_text f.ledger.items
    → e ≡ d ++ held_text f.held.items → h ≡ e ++ length_text f.length → h ≡ t ++ found_text f
all_told f t u v w x y z a b d e h illegal castlings twos captures last steps lefts ends ledger held games =
    let first = decided_lines f.illegal.finding f.illegal.stuck Illegal in
    let second = first ++ castling_lines f.rights.items in
    let third = second ++ pair_lines f.pairs.items in
    let fourth = third ++ capture_lines f.rights.items in
    let fifth = fourth ++ last_text f.last in
    let sixth = fifth ++ steps_text f.steps in
    let seventh = sixth ++ left_line f.left f.all in
    let eighth = seventh ++ ends_text f.ends (length f.left) in
    let ninth = eighth ++ lines_text f.ledger.items in
    let tenth = ninth ++ held_text f.held.items in
    joins t tenth (length_text f.length) e h
    (joins t ninth (held_text f.held.items) d e
    (joins t eighth (lines_text f.ledger.items) b d
    (joins t seventh (ends_text f.ends (length f.left)) a b
    (joins t sixth (left_line f.left f.all) z a
    (joins t fifth (steps_text f.steps) y z
    (joins t fourth (last_text f.last) x y
    (joins t third (capture_lines f.rights.items) w x (joins t second (pair_lines f.pairs.items) v w (joins t first (castling_lines f.rights.items) u v illegal castlings) twos) captures)
    last)
    steps)
    lefts)
    ends)
    ledger)
    held)
    games

-- a position: the text of what was found of it
pub position_told : (q : Asked) (most nodes : ℕ) (by : List (List Move)) (findings : Findings) (finding : Finding) (t v : List ℕ) → IsFoundOf q most nodes by findings → finding ≡ finding_of findings → v ≡ t ++ findings_text findings → Told (TellsPosition q most nodes finding) t v
position_told q most nodes by findings finding t v found is longer = (findings_text findings, record { by = by; findings = findings; found = found; finding_is = is; text_is = refl }, longer)

pub plain_told : (q plain : Asked) (most nodes : ℕ) (finding : Finding) (t u v : List ℕ) → plain ≡ without_demands q → u ≡ t ++ plain_line → Told (TellsPosition plain most nodes finding) u v → Told (TellsPlain q most nodes) t v
plain_told q plain most nodes finding t u v is line told =
    (plain_line ++ told.0, (finding, told.0, subst (λ (r : Asked). TellsPosition r most nodes finding told.0) is told.1, refl), joins t plain_line told.0 u v line told.2)

-- and again, where its demands make it illegal
pub again_told : (q : Asked) (most nodes : ℕ) (finding : Finding) (u v : List ℕ) → is_proved finding ≡ true → makes_demands q ≡ true → Told (TellsPlain q most nodes) u v → Told (TellsAgain q most nodes finding) u v
again_told q most nodes finding u v proved demands told =
    let both : IsTrue (is_proved finding && makes_demands q) = ap (λ (b : Bool). b && makes_demands q) proved ∙ demands in
    (told.0, (λ h. told.1, λ none. absurd (none both)), told.2)

pub study_told : (q : Asked) (most nodes : ℕ) (finding : Finding) (t u v : List ℕ) → t ≡ [] → Told (TellsPosition q most nodes finding) t u → Told (TellsAgain q most nodes finding) u v → IsStudy q most nodes v
study_told q most nodes finding t u v none own plain = record {
  finding = finding;
  own = own.0;
  plain = plain.0;
  told = own.1;
  again = plain.1;
  text_is = joins t own.0 plain.0 u v own.2 plain.2 ∙ ap (λ (l : List ℕ). l ++ (own.0 ++ plain.0)) none;
}
