-- Inner: no public clause cites this file.
-- What is found of the claims about a position that isn't proved to be illegal.
use Rattle.std.specs.Prelude.{ℕ, ◌≡◌, false, List, map}
use Rattle.std.specs.List.{All, filter}
use Rattle.board_base.specs.declared.moves.Move.{Move}
use Rattle.query_base.specs.Asked.{Asked}
use Rattle.query_base.specs.declared.claims.Claim.TheVariants.{Illegal}
use Rattle.diagram_study.specs.Decisions.{IsPairSought, IsRightSought}
use Rattle.claim_findings.specs.Decisions.{IsAgreed, IsDecided}
use Rattle.claim_findings.specs.Findings.{is_proved}
use Rattle.diagram_study.specs.Pairs.{ArePairsFound, HasStuckPairText, are_both_in, castle_pairs, pair_of}
use Rattle.diagram_study.specs.Rights.{AreDue, AreFound, HasStuckText, open_castlings}
use Rattle.diagram_study.specs.declared.gathering.Gathered.{Gathered}

-- this was found by the searches of each claim
pub record AreSought (q : Asked) (most nodes : ℕ) (games : List (List Move)) (g : Gathered) : Type 0 where
  pub illegal : IsDecided q Illegal most nodes games g.illegal
  pub unproved : is_proved g.illegal.finding ≡ false
  pub due : AreDue q (map (λ f. f.right) g.rights.items)
  pub rights : All (IsRightSought q most nodes games) g.rights.items
  pub are_pairs : map pair_of g.pairs.items ≡ filter (are_both_in (open_castlings g.rights.items)) castle_pairs
  pub pairs : All (IsPairSought q most nodes games) g.pairs.items

-- this was found of each claim by all the games too
pub record AreGathered (q : Asked) (most nodes : ℕ) (games : List (List Move)) (g : Gathered) : Type 0 where
  pub illegal : IsAgreed q Illegal most nodes games g.illegal
  pub unproved : is_proved g.illegal.finding ≡ false
  pub rights : AreFound q most nodes games g.rights.items
  pub texts : All HasStuckText g.rights.items
  pub pairs : ArePairsFound q most nodes games (open_castlings g.rights.items) g.pairs.items
  pub pair_texts : All HasStuckPairText g.pairs.items
