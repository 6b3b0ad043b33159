-- Inner: no public clause cites this file.
-- Dossiers on their way.
use Rattle.std.specs.Prelude.{ℕ, ◌+◌, ◌≡◌, ◌≤◌, List, ◌++◌, length}
use Rattle.std.specs.List.{All}
use Rattle.query_base.specs.Asked.{Asked}
use Rattle.query_base.specs.declared.claims.Claim.{Claim}
use Rattle.line_claims.specs.Due.{parts_due}
use Rattle.line_claims.specs.declared.claims.LineClaim.{LineClaim}
use Rattle.dossier_text.specs.Proving.{AreProofs, IsDossier}
use Rattle.dossier_search.specs.ReachedParts.{IsPartAfforded, IsPartProved}

-- The text is a dossier up to the part with this number. These parts are left, and with proofs of them it becomes the dossier.
pub record IsBegun (depth nodes : ℕ) (claim : LineClaim) (q : Asked) (text : List ℕ) (left : List (Claim × Asked)) (number : ℕ) : Type 0 where
  pub done : List (Claim × Asked)
  pub whole : parts_due claim q ≡ done ++ left
  pub place : number ≡ length done + 1
  pub few : number + length left ≤ 113
  pub proved : All (IsPartProved depth) done
  pub afforded : All (IsPartAfforded depth nodes) done
  pub ends : (rest : List ℕ) → AreProofs rest left → IsDossier (text ++ rest) claim q
