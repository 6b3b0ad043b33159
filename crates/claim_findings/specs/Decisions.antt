-- What is found of a claim, with what is told of an open line, and by games.
use Rattle.std.specs.Prelude.{ℕ, ◌≡◌, IfSome, IsTrue, List}
use Rattle.std.specs.List.{All, Contains}
use Rattle.board_base.specs.declared.moves.Move.{Move}
use Rattle.query_base.specs.Asked.{Asked}
use Rattle.query_base.specs.declared.claims.Claim.{Claim}
use Rattle.line_claims.specs.Lines.{has_text}
use Rattle.claim_findings.specs.Ends.{IsStuck}
use Rattle.claim_findings.specs.Findings.{IsFound}
use Rattle.claim_findings.specs.Games.{AgreesWith, IsCounteredIn}
use Rattle.claim_findings.specs.declared.deciding.Decided.{Decided}
use Rattle.claim_findings.specs.declared.findings.Finding.TheVariants.{Countered}

-- there are all the games that there were
pub record Grows (old new : List (List Move)) : Type 0 where
  pub keeps : (g : List Move) → Contains old g → Contains new g

-- this was found of the claim, with what is told of an open line; where it is countered, one of these games contradicts it
pub record IsDecided (q : Asked) (claim : Claim) (most nodes : ℕ) (games : List (List Move)) (d : Decided) : Type 0 where
  pub found : IsFound q claim most nodes d.finding
  pub stuck : IsStuck q claim most nodes d.finding d.stuck
  pub texts : IfSome d.stuck (All (λ u. IsTrue (has_text u)))
  pub countered : d.finding ≡ Countered → IsCounteredIn games claim q

-- the same, and the claim is countered if and only if one of the games contradicts it
pub record IsAgreed (q : Asked) (claim : Claim) (most nodes : ℕ) (games : List (List Move)) (d : Decided) : Type 0 where
  pub decided : IsDecided q claim most nodes games d
  pub agrees : AgreesWith games claim q d.finding
