-- The lines that tell what was found of a claim.
use Rattle.std.specs.Prelude.{ℕ, List, [], ◌∷◌, ◌++◌, codes, Option, Some, None}
use Rattle.std.specs.Fmt.{decimal}
use Rattle.board_base.specs.Texts.{unmove_words}
use Rattle.board_base.specs.declared.unmoves.Unmove.{Unmove}
use Rattle.query_base.specs.declared.claims.Claim.{Claim}
use Rattle.cert_text.specs.ClaimLines.{claim_words}
use Rattle.cert_text.specs.Lines.{ended}
use Rattle.fen_text.specs.Fen.{castle_letter}
use Rattle.line_claims.specs.Lines.{steps_text}
use Rattle.line_claims.specs.declared.claims.LineClaim.{LineClaim}
use Rattle.line_claims.specs.declared.claims.LineClaim.TheVariants.{NotBoth, Line}
use Rattle.claim_findings.specs.declared.findings.Finding.{Finding}
use Rattle.claim_findings.specs.declared.findings.Finding.TheVariants.{Proved, Countered, Open, Spent}

-- what was found, before the claim
abbrev pub finding_words : Finding → List ℕ
finding_words (Proved depth) = codes "proved " ++ decimal depth ++ 32 ∷ []
finding_words Countered = codes "countered "
finding_words Open = codes "open "
finding_words Spent = codes "spent "

-- the line that tells what was found of a claim
abbrev pub found_line : Finding → Claim → List ℕ
found_line finding claim = ended (finding_words finding ++ claim_words claim)

-- the line behind an open claim: the retractions that are told of an open line, if there are any
abbrev pub stuck_line : List ℕ → Option (List Unmove) → List ℕ
stuck_line words None = []
stuck_line words (Some front) = ended (codes "stuck " ++ words ++ unmove_words front)

-- the lines that tell what was found of a claim
abbrev pub decided_lines : Finding → Option (List Unmove) → Claim → List ℕ
decided_lines finding stuck claim = found_line finding claim ++ stuck_line (claim_words claim) stuck

-- what the line of a claim of several steps says after `claim `
abbrev pub steps_words : LineClaim → List ℕ
steps_words (NotBoth x y) = codes "notboth " ++ castle_letter x ∷ 32 ∷ castle_letter y ∷ []
steps_words (Line steps) = codes "line " ++ steps_text steps

-- the line that tells what was found of a claim of several steps
abbrev pub steps_line : Finding → LineClaim → List ℕ
steps_line finding claim = ended (finding_words finding ++ steps_words claim)

-- the lines that tell what was found of a claim of several steps
abbrev pub decided_steps : Finding → Option (List Unmove) → LineClaim → List ℕ
decided_steps finding stuck claim = steps_line finding claim ++ stuck_line (steps_words claim) stuck
