-- What is found of a position, as a value of which a study is written.
use Rattle.std.specs.Prelude.{ℕ, ◌≡◌, ◌≤◌, ◌<◌, false, IfSome, IsTrue, List, [], length, Option, Some, None}
use Rattle.std.specs.List.{All}
use Rattle.board_base.specs.Board.{men_squares, opponent}
use Rattle.board_base.specs.Texts.{can_promote}
use Rattle.board_base.specs.declared.men.Colour.TheVariants.{White, Black}
use Rattle.board_base.specs.declared.moves.Move.{Move}
use Rattle.board_base.specs.declared.unmoves.Unmove.{Unmove}
use Rattle.query_base.specs.Asked.{Asked}
use Rattle.query_base.specs.Reach.{Reaches}
use Rattle.query_base.specs.declared.claims.Claim.TheVariants.{Illegal}
use Rattle.cert_text.specs.ClaimLines.{promotes_well}
use Rattle.codex_verdict.specs.Rights.{claim_of}
use Rattle.line_claims.specs.Lines.{HasLine, has_text, in_order}
use Rattle.length_bound.specs.Longest.{IsBest, longer_side, side_length}
use Rattle.length_bound.specs.declared.texts.LengthText.{LengthText}
use Rattle.unmove_gen.specs.Listed.{unmoves}
use Rattle.ledger_told.specs.Told.{TellsLines}
use Rattle.claim_findings.specs.Decisions.{IsAgreed}
use Rattle.claim_findings.specs.Findings.{IsFound, is_proved}
use Rattle.claim_findings.specs.declared.findings.Finding.{Finding}
use Rattle.diagram_study.specs.Forced.{AreStepsFound}
use Rattle.diagram_study.specs.Held.{AreHeldFound}
use Rattle.diagram_study.specs.Pairs.{ArePairsFound, HasStuckPairText}
use Rattle.diagram_study.specs.Possible.{HasEnds}
use Rattle.diagram_study.specs.Retractions.{HasLeft, IsLastFound}
use Rattle.diagram_study.specs.Rights.{AreFound, HasStuckText, open_castlings}
use Rattle.diagram_study.specs.declared.findings.Findings.{Findings}
use Rattle.diagram_study.specs.declared.findings.Findings.TheVariants.{Impossible, Unproved}
use Rattle.diagram_study.specs.declared.findings.Found.{Found}

-- the greatest length that potentials of a side's men show, and each game that reaches the query is as long
pub record IsLength (q : Asked) (said : LengthText) : Type 0 where
  pub best : IsBest q said
  pub side : longer_side (side_length White q) (side_length Black q) ≡ Some said.side
  pub games : (g : List Move) → Reaches g q → said.at_least ≤ length g

-- how many half-moves games have at least, or nothing if both sides have more than sixteen men
abbrev pub HasLength : Asked → Option ℕ → Type 0
HasLength q None = (16 < length (men_squares White q.board)) × (16 < length (men_squares Black q.board))
HasLength q (Some n) = (said : LengthText) × IsLength q said × (n ≡ said.at_least)

-- What is found of a position that isn't proved to be illegal: of that claim, of the castlings that it seems to give and that aren't
-- demanded and of captures en passant, of each two castlings that aren't proved to be lost, which of its retractions are left, of the last
-- move and of those before it, with which of the retractions games end, which lines of its ledger are told, which more if a castling that
-- isn't settled is held, and how long games are. These games decide which claims are countered and which ends are possible. Where a move may be taken back and no retraction is left, it is the
-- array.
pub record AreFindings (q : Asked) (most nodes : ℕ) (by : List (List Move)) (f : Found) : Type 0 where
  pub illegal : IsAgreed q Illegal most nodes by f.illegal
  pub unproved : is_proved f.illegal.finding ≡ false
  pub rights : AreFound q most nodes by f.rights.items
  pub pairs : ArePairsFound q most nodes by (open_castlings f.rights.items) f.pairs.items
  pub left : HasLeft q most nodes f.left
  pub all : f.all ≡ length (unmoves q)
  pub array : 1 ≤ most → f.left ≡ [] → Reaches [] q
  pub last : IsLastFound q most nodes f.left f.last
  pub steps : AreStepsFound q most nodes f.steps
  pub ends : HasEnds q by f.left f.ends
  pub ledger : TellsLines q f.ledger.items
  pub held : AreHeldFound q f.ledger.items f.rights.items f.held.items
  pub games : HasLength q f.length

-- The same board with the other side to move, at the same odds, with the same rights and the same clock demanded. The double step that
-- an en passant square demands belongs to the side to move: it isn't demanded.
abbrev pub other_side : Asked → Asked
other_side q = record q { turn = opponent q.turn; only = None; barred = None }

-- The position is proved to be illegal, so that every claim about it holds, and nothing more is found of it but of the same claim with the
-- other side to move; or it isn't, and all that is found.
abbrev pub IsFoundOf : Asked → ℕ → ℕ → List (List Move) → Findings → Type 0
IsFoundOf q most nodes by (Impossible finding against) = IsFound q Illegal most nodes finding × IsTrue (is_proved finding) × IsFound (other_side q) Illegal most nodes against
IsFoundOf q most nodes by (Unproved f) = AreFindings q most nodes by f

-- what was found of the claim that the position is illegal
abbrev pub finding_of : Findings → Finding
finding_of (Impossible finding against) = finding
finding_of (Unproved f) = f.illegal.finding

-- these unmoves have texts, and there are no more than there can be of one position
pub record HaveTexts (us : List Unmove) : Type 0 where
  pub few : length us ≤ 143360
  pub texts : All (λ u. IsTrue (has_text u)) us

-- What is found can be written: the claims and the retractions in it have texts, and two castlings stand in order.
pub record HasTexts (f : Found) : Type 0 where
  pub illegal : IfSome f.illegal.stuck (All (λ u. IsTrue (has_text u)))
  pub promotions : All (λ r. IsTrue (promotes_well (claim_of r.right))) f.rights.items
  pub rights : All HasStuckText f.rights.items
  pub order : All (λ p. IsTrue (in_order p.first p.second)) f.pairs.items
  pub pairs : All HasStuckPairText f.pairs.items
  pub left : HaveTexts f.left
  pub last : IfSome f.last (λ m. IsTrue (can_promote m.mv.promo))
  pub steps : IfSome f.steps (λ s. HasLine s.claim)
  pub ends : IfSome f.ends HaveTexts

-- what is found can be written: nothing has to be said of a position that is illegal
abbrev pub CanBeWritten : Findings → Type 0
CanBeWritten (Impossible finding against) = Unit {0}
CanBeWritten (Unproved f) = HasTexts f
