-- When what a sentence says of a position is so.
use Rattle.std.specs.Prelude.{◌≤◌, IsTrue, List, length, None, is_some}
use Rattle.board_base.specs.Board.{opponent}
use Rattle.board_base.specs.Rights.{no_rights}
use Rattle.board_base.specs.declared.moves.Move.{Move}
use Rattle.query_base.specs.Asked.{Asked}
use Rattle.query_base.specs.Reach.{Contradicts, Holds, Reaches}
use Rattle.query_base.specs.declared.claims.Claim.{Claim}
use Rattle.query_base.specs.declared.claims.Claim.TheVariants.{Illegal, Ep}
use Rattle.line_claims.specs.Holding.{HoldsLine}
use Rattle.line_claims.specs.declared.claims.LineClaim.TheVariants.{NotBoth as NeverBoth}
use Rattle.verdict_prose.specs.declared.verdicts.Verdict.{Verdict}
use Rattle.verdict_prose.specs.declared.verdicts.Verdict.TheVariants.{Shown, GivenPassing, Countered, Unsettled, NotBoth, UnsettledBoth, OtherShown, OtherCountered, OtherUnsettled, GivenShown, PlainShown, PlainCountered, AtLeast}

-- the same board with the other side to move, without the double step that belongs to the side to move
abbrev pub turned : Asked → Asked
turned q = record q { turn = opponent q.turn; only = None; barred = None }

-- the same position without what is demanded, at the same odds
abbrev pub plain : Asked → Asked
plain q = record q { held = no_rights; only = None; barred = None; clock = None }

-- some game contradicts the claim
abbrev pub IsCountered : Claim → Asked → Type 0
IsCountered claim q = (g : List Move) × Contradicts g claim q

-- What is shown holds of every game, and so does what follows from a last move that is demanded; some game contradicts what is countered, and
-- each game is as long as is said. What is unsettled says nothing of games.
abbrev pub IsSo : Asked → Verdict → Type 0
IsSo q (Shown claim) = Holds claim q
IsSo q (Countered claim) = IsCountered claim q
IsSo q (GivenPassing m) = Holds (Ep m) q × IsTrue (is_some q.only)
IsSo q (Unsettled claim) = Unit {0}
IsSo q (NotBoth x y) = HoldsLine (NeverBoth x y) q
IsSo q (UnsettledBoth x y) = Unit {0}
IsSo q OtherShown = Holds Illegal (turned q)
IsSo q OtherCountered = IsCountered Illegal (turned q)
IsSo q OtherUnsettled = Unit {0}
IsSo q GivenShown = Holds Illegal q
IsSo q PlainShown = Holds Illegal (plain q)
IsSo q PlainCountered = IsCountered Illegal (plain q)
IsSo q (AtLeast n) = (g : List Move) → Reaches g q → n ≤ length g
