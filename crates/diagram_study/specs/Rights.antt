-- What is found of the rights that a position seems to give.
use Rattle.std.specs.Prelude.{ℕ, ◌≡◌, Bool, false, cond, not, IfSome, IsTrue, List, map, fold}
use Rattle.std.specs.List.{All, filter}
use Rattle.board_base.specs.Rights.{Rights, holds, with_castling, no_rights}
use Rattle.board_base.specs.declared.moves.Move.{Move}
use Rattle.query_base.specs.Asked.{Asked}
use Rattle.codex_verdict.specs.Rights.{AreRights, claim_of}
use Rattle.codex_verdict.specs.declared.kinds.Right.{Right}
use Rattle.codex_verdict.specs.declared.kinds.Right.TheVariants.{Castling, EnPassant}
use Rattle.line_claims.specs.Lines.{has_text}
use Rattle.claim_findings.specs.Ends.{IsStuck}
use Rattle.claim_findings.specs.Findings.{IsFound, is_proved}
use Rattle.claim_findings.specs.Games.{AgreesWith}
use Rattle.claim_findings.specs.declared.findings.Finding.{Finding}
use Rattle.diagram_study.specs.declared.rights.RightFound.{RightFound}

-- the right is that of a castling which the query demands
abbrev pub is_demanded : Asked → Right → Bool
is_demanded q (Castling x) = holds q.held x
is_demanded q (EnPassant m) = false

-- the rights of the query's position that it doesn't demand, in order
pub record AreDue (q : Asked) (due : List Right) : Type 0 where
  pub all : List Right
  pub rights : AreRights q.board q.turn all
  pub due_are : due ≡ filter (λ r. not (is_demanded q r)) all

-- this was found of the claim that decides the right, also by these games, and this is told of an open line
pub record IsRightFound (q : Asked) (most nodes : ℕ) (games : List (List Move)) (f : RightFound) : Type 0 where
  pub found : IsFound q (claim_of f.right) most nodes f.finding
  pub agrees : AgreesWith games (claim_of f.right) q f.finding
  pub stuck : IsStuck q (claim_of f.right) most nodes f.finding f.stuck

-- what was found of each right that isn't demanded, in order
pub record AreFound (q : Asked) (most nodes : ℕ) (games : List (List Move)) (found : List RightFound) : Type 0 where
  pub due : AreDue q (map (λ f. f.right) found)
  pub each : All (IsRightFound q most nodes games) found

-- the set with the castling of a right that was found open, if it is one
abbrev pub with_right : Right → Finding → Rights → Rights
with_right (Castling x) finding set = cond (is_proved finding) set (with_castling set x)
with_right (EnPassant m) finding set = set

-- the castlings that aren't proved to be lost
unfoldable pub open_castlings : List RightFound → Rights
open_castlings found = fold (λ set f. with_right f.right f.finding set) no_rights found

-- the retractions that are told of an open line have texts
abbrev pub HasStuckText : RightFound → Type 0
HasStuckText f = IfSome f.stuck (All (λ u. IsTrue (has_text u)))
