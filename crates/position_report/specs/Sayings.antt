-- Which verdicts a report tells.
use Rattle.std.specs.Prelude.{ℕ, Bool, true, false, not, cond, codes, is_some, List, [], ◌∷◌, ◌++◌, Option, Some, None}
use Rattle.std.specs.List.{flat_map}
use Rattle.query_base.specs.Asked.{Asked}
use Rattle.query_base.specs.declared.claims.Claim.{Claim}
use Rattle.query_base.specs.declared.claims.Claim.TheVariants.{Illegal, Last, Lost, Ep}
use Rattle.codex_verdict.specs.Rights.{claim_of}
use Rattle.codex_verdict.specs.declared.kinds.Right.{Right}
use Rattle.codex_verdict.specs.declared.kinds.Right.TheVariants.{Castling, EnPassant}
use Rattle.diagram_study.specs.ClaimFindings.{is_proved}
use Rattle.diagram_study.specs.Finding.{Finding}
use Rattle.diagram_study.specs.Finding.TheVariants as finding
use Rattle.diagram_study.specs.Held.{is_open}
use Rattle.diagram_study.specs.declared.findings.Found.{Found}
use Rattle.diagram_study.specs.declared.pairs.PairFound.{PairFound}
use Rattle.diagram_study.specs.declared.rights.RightFound.{RightFound}
use Rattle.verdict_prose.specs.declared.verdicts.Verdict.{Verdict}
use Rattle.verdict_prose.specs.declared.verdicts.Verdict.TheVariants.{Shown, GivenPassing, Countered, NotBoth, OtherShown, OtherCountered, OtherUnsettled, GivenShown, PlainShown, PlainCountered}

-- a last move is demanded
abbrev pub has_last : Asked → Bool
has_last q = is_some q.only

-- what is said of a claim that is proved: of a capture en passant that follows from a last move, if one is given
abbrev pub proved_of : Bool → Claim → Verdict
proved_of given Illegal = Shown Illegal
proved_of given (Last m) = Shown (Last m)
proved_of given (Lost x) = Shown (Lost x)
proved_of given (Ep m) = cond given (GivenPassing m) (Shown (Ep m))

-- what was found of a claim, if it is settled, by whether a last move is given
abbrev pub settled_of : Bool → Finding → Claim → List Verdict
settled_of given (finding.Proved depth) claim = proved_of given claim ∷ []
settled_of given finding.Countered claim = Countered claim ∷ []
settled_of given finding.Open claim = []
settled_of given finding.Spent claim = []

-- the right is that of a castling, or that of a capture en passant, as is asked
abbrev pub is_asked : Bool → Right → Bool
is_asked castlings (Castling x) = castlings
is_asked castlings (EnPassant m) = not castlings

-- what was found of castlings, or of captures en passant
abbrev pub right_verdicts : Bool → Bool → RightFound → List Verdict
right_verdicts castlings given f = cond (is_asked castlings f.right) (settled_of given f.finding (claim_of f.right)) []

-- that two castlings aren't both kept, if it is proved
abbrev pub pair_verdicts : PairFound → List Verdict
pair_verdicts f = cond (is_proved f.finding) (NotBoth f.first f.second ∷ []) []

-- that it isn't settled whether a game leads to the position, by what was found of the claim that none does
abbrev pub unsettled_text : Finding → List ℕ
unsettled_text f =
    cond (is_open f) (codes "Whether a game leads here isn't settled; what is said here holds of every game that does.\n") []

-- what is proved, and what games show, in the order of a study
unfoldable pub shown_of : Asked → Found → List Verdict
shown_of q f =
    settled_of (has_last q) f.illegal.finding Illegal ++ flat_map (right_verdicts true (has_last q)) f.rights.items ++ flat_map pair_verdicts f.pairs.items ++ flat_map (right_verdicts false (has_last q)) f.rights.items

-- what is said of the other side, of a position that is illegal
abbrev pub other_of : Finding → Verdict
other_of (finding.Proved depth) = OtherShown
other_of finding.Countered = OtherCountered
other_of finding.Open = OtherUnsettled
other_of finding.Spent = OtherUnsettled

-- what is said of the position without its demands, if that is settled
abbrev pub plain_of : Finding → List Verdict
plain_of (finding.Proved depth) = PlainShown ∷ []
plain_of finding.Countered = PlainCountered ∷ []
plain_of finding.Open = []
plain_of finding.Spent = []

-- What is said of a position that is illegal: that it is, and what was found with the other side to move. If it makes demands, that it is with
-- what is given, and what was found without them.
abbrev pub impossible_of : Finding → Option Finding → List Verdict
impossible_of against None = Shown Illegal ∷ other_of against ∷ []
impossible_of against (Some plain) = GivenShown ∷ plain_of plain
