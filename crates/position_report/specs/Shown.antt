-- The claims whose proofs a report tells.
use Rattle.std.specs.Prelude.{Bool, false, ◌&&◌, ◌||◌, not, cond, List, [], ◌∷◌, ◌++◌, Option, Some, None}
use Rattle.std.specs.List.{flat_map, list_any}
use Rattle.query_base.specs.Asked.{Asked}
use Rattle.query_base.specs.declared.claims.Claim.{Claim}
use Rattle.query_base.specs.declared.claims.Claim.TheVariants.{Illegal, Last}
use Rattle.line_claims.specs.Due.{with_both}
use Rattle.codex_verdict.specs.Rights.{claim_of}
use Rattle.codex_verdict.specs.declared.kinds.Right.{Right}
use Rattle.diagram_study.specs.ClaimFindings.{is_proved}
use Rattle.diagram_study.specs.declared.findings.Found.{Found}
use Rattle.diagram_study.specs.declared.pairs.PairFound.{PairFound}
use Rattle.diagram_study.specs.declared.retractions.MoveFound.{MoveFound}
use Rattle.diagram_study.specs.declared.rights.RightFound.{RightFound}
use Rattle.position_report.specs.Sayings.{has_last, is_asked}
use Rattle.position_report.specs.declared.shown.Pair.{Pair}
use Rattle.position_report.specs.declared.shown.Shown.{Shown}

-- a claim about a position, and the two castlings of which it shows that at least one is lost, if there are such
abbrev pub shown_as : Claim → Asked → Option Pair → Shown
shown_as claim q pair = record { claim = claim; query = q; pair = pair }

-- a claim about the report's own position, which says itself what it shows
abbrev pub claim_shown : Claim → Asked → Shown
claim_shown claim q = shown_as claim q None

-- that no game leads to the position
abbrev pub illegal_shown : Asked → Shown
illegal_shown q = claim_shown Illegal q

-- that no game leads to the position with two castlings demanded besides, so that at least one of them is lost
abbrev pub both_shown : Asked → PairFound → Shown
both_shown q f =
    shown_as Illegal (with_both q f.first f.second) (Some (record { first = f.first; second = f.second }))

-- the right is that of a capture en passant, and a last move is given, from which it follows
abbrev pub is_given : Asked → Right → Bool
is_given q r = has_last q && is_asked false r

-- the claim of a right, if it is proved, and doesn't follow from what is given
abbrev pub right_shown : Asked → RightFound → List Shown
right_shown q f = cond (is_proved f.finding && not (is_given q f.right)) (claim_shown (claim_of f.right) q ∷ []) []

-- that two castlings can't both be kept, if it is proved
abbrev pub pair_shown : Asked → PairFound → List Shown
pair_shown q f = cond (is_proved f.finding) (both_shown q f ∷ []) []

-- the last move, if it is proved
abbrev pub last_shown : Asked → Option MoveFound → List Shown
last_shown q None = []
last_shown q (Some f) = cond (is_proved f.finding) (claim_shown (Last f.mv) q ∷ []) []

-- that a capture en passant is legal is proved
abbrev pub proves_passing : RightFound → Bool
proves_passing f = is_proved f.finding && is_asked false f.right

-- the last move, unless it is given, or a capture en passant is proved to be legal, since then the proof would be the same
abbrev pub other_shown : Asked → Found → List Shown
other_shown q f = cond (has_last q || list_any proves_passing f.rights.items) [] (last_shown q f.last)

-- the claims about a position that are proved, each of which one certificate may prove
unfoldable pub shown_claims : Asked → Found → List Shown
shown_claims q f = flat_map (right_shown q) f.rights.items ++ flat_map (pair_shown q) f.pairs.items ++ other_shown q f
