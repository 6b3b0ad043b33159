-- What is found of two castlings together.
use Rattle.std.specs.Prelude.{ℕ, ◌≡◌, Bool, ◌&&◌, IfSome, IsTrue, List, [], ◌∷◌, map}
use Rattle.std.specs.List.{All, filter}
use Rattle.board_base.specs.Rights.{Rights, holds}
use Rattle.board_base.specs.declared.castles.Castle.{Castle}
use Rattle.board_base.specs.declared.castles.Castle.TheVariants.{WhiteShort, WhiteLong, BlackShort, BlackLong}
use Rattle.board_base.specs.declared.moves.Move.{Move}
use Rattle.query_base.specs.Asked.{Asked}
use Rattle.query_base.specs.declared.claims.Claim.TheVariants.{Illegal}
use Rattle.line_claims.specs.Due.{with_both}
use Rattle.line_claims.specs.Holding.{HoldsLine}
use Rattle.line_claims.specs.Lines.{has_text}
use Rattle.line_claims.specs.declared.claims.LineClaim.TheVariants.{NotBoth}
use Rattle.claim_findings.specs.Ends.{IsStuck}
use Rattle.claim_findings.specs.Findings.{IsFound, is_proved}
use Rattle.claim_findings.specs.Games.{AgreesWith}
use Rattle.claim_findings.specs.Joined.{IsLineContradicted}
use Rattle.claim_findings.specs.declared.findings.Finding.TheVariants.{Countered}
use Rattle.diagram_study.specs.declared.pairs.PairFound.{PairFound}

-- each two castlings, in the order K, Q, k, q
abbrev pub castle_pairs : List (Castle × Castle)
castle_pairs =
    (WhiteShort, WhiteLong) ∷ (WhiteShort, BlackShort) ∷ (WhiteShort, BlackLong) ∷ (WhiteLong, BlackShort) ∷ (WhiteLong, BlackLong) ∷ (BlackShort, BlackLong) ∷ []

-- the two castlings of which something was found
abbrev pub pair_of : PairFound → Castle × Castle
pair_of f = (f.first, f.second)

-- both castlings are in the set
abbrev pub are_both_in : Rights → Castle × Castle → Bool
are_both_in kept pair = holds kept pair.0 && holds kept pair.1

-- What was found of the claim that the two castlings aren't both kept: of the claim that no game reaches the query with both held. Where
-- that is proved, no game leaves both unmoved; where it is countered, which these games decide, some game does.
pub record IsPairFound (q : Asked) (most nodes : ℕ) (games : List (List Move)) (f : PairFound) : Type 0 where
  pub found : IsFound (with_both q f.first f.second) Illegal most nodes f.finding
  pub agrees : AgreesWith games Illegal (with_both q f.first f.second) f.finding
  pub holds : IsTrue (is_proved f.finding) → HoldsLine (NotBoth f.first f.second) q
  pub countered : f.finding ≡ Countered → IsLineContradicted (NotBoth f.first f.second) q
  pub stuck : IsStuck (with_both q f.first f.second) Illegal most nodes f.finding f.stuck

-- what was found of each two castlings of the set, in order
pub record ArePairsFound (q : Asked) (most nodes : ℕ) (games : List (List Move)) (kept : Rights) (found : List PairFound) : Type 0 where
  pub pairs : map pair_of found ≡ filter (are_both_in kept) castle_pairs
  pub each : All (IsPairFound q most nodes games) found

-- the retractions that are told of an open line have texts
abbrev pub HasStuckPairText : PairFound → Type 0
HasStuckPairText f = IfSome f.stuck (All (λ u. IsTrue (has_text u)))
