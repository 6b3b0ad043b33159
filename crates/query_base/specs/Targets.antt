-- The query that a claim is to be refuted at, and queries that ask no more than others.
use Rattle.std.specs.Prelude.{◌≡◌, cond, IfSome, Some}
use Rattle.board_base.specs.Play.{double_of}
use Rattle.board_base.specs.Rights.{with_castling}
use Rattle.play_rules.specs.Fits.{ep_fits}
use Rattle.query_base.specs.Asked.{Asked}
use Rattle.query_base.specs.Ends.{IsWithin}
use Rattle.query_base.specs.declared.claims.Claim.{Claim}
use Rattle.query_base.specs.declared.claims.Claim.TheVariants.{Illegal, Last, Lost, Ep}

-- What a game that contradicts the claim reaches: the query itself; the query with the claimed last move barred; the query with the
-- castling that is claimed to be lost still held; the query with the double step barred that the claimed capture en passant answers,
-- or the query itself where the capture doesn't fit the board.
abbrev pub target : Asked → Claim → Asked
target q Illegal = q
target q (Last m) = record q { barred = Some m }
target q (Lost x) = record q { held = with_castling q.held x }
target q (Ep m) = cond (ep_fits q.board q.turn m) (record q { barred = double_of m q.turn }) q

-- The first query has the board, the side to move and the odds of the second, and demands nothing that the second doesn't.
pub record Covers (a q : Asked) : Type 0 where
  pub board : a.board ≡ q.board
  pub turn : a.turn ≡ q.turn
  pub odds : a.odds ≡ q.odds
  pub held : IsWithin a.held q.held
  pub only : IfSome a.only (λ m. q.only ≡ Some m)
  pub barred : IfSome a.barred (λ m. q.barred ≡ Some m)
  pub clock : IfSome a.clock (λ n. q.clock ≡ Some n)
