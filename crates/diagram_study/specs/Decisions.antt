-- Inner: no public clause cites this file.
-- What is found of rights and of two castlings each, with what is told of open lines, and by games.
use Rattle.std.specs.Prelude.{ℕ, List}
use Rattle.board_base.specs.declared.moves.Move.{Move}
use Rattle.query_base.specs.Asked.{Asked}
use Rattle.query_base.specs.declared.claims.Claim.TheVariants.{Illegal}
use Rattle.codex_verdict.specs.Rights.{claim_of}
use Rattle.line_claims.specs.Due.{with_both}
use Rattle.claim_findings.specs.Decisions.{IsAgreed, IsDecided}
use Rattle.diagram_study.specs.declared.pairs.PairFound.{PairFound}
use Rattle.diagram_study.specs.declared.rights.RightFound.{RightFound}

-- this was found of the claim that decides the right
pub record IsRightSought (q : Asked) (most nodes : ℕ) (games : List (List Move)) (f : RightFound) : Type 0 where
  pub decided : IsDecided q (claim_of f.right) most nodes games (record { finding = f.finding; stuck = f.stuck })

pub record IsRightAgreed (q : Asked) (most nodes : ℕ) (games : List (List Move)) (f : RightFound) : Type 0 where
  pub agreed : IsAgreed q (claim_of f.right) most nodes games (record { finding = f.finding; stuck = f.stuck })

-- this was found of the claim that no game keeps both castlings
pub record IsPairSought (q : Asked) (most nodes : ℕ) (games : List (List Move)) (f : PairFound) : Type 0 where
  pub decided : IsDecided (with_both q f.first f.second) Illegal most nodes games (record { finding = f.finding; stuck = f.stuck })

pub record IsPairAgreed (q : Asked) (most nodes : ℕ) (games : List (List Move)) (f : PairFound) : Type 0 where
  pub agreed : IsAgreed (with_both q f.first f.second) Illegal most nodes games (record { finding = f.finding; stuck = f.stuck })
