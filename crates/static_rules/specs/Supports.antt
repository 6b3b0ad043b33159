-- What a rule line says of a query: that a law is broken which holds after every game at the query's odds.
use Rattle.std.specs.Prelude.{◌≡◌, false, IsTrue}
use Rattle.board_base.specs.Board.{opponent}
use Rattle.board_base.specs.Game.{lacks_home}
use Rattle.board_base.specs.Legal.{in_check}
use Rattle.board_base.specs.Rights.{holds}
use Rattle.board_base.specs.declared.castles.Castle.{Castle}
use Rattle.castle_history.specs.Homes.{HaveHomes}
use Rattle.play_rules.specs.Kings.{HasOneKingEach}
use Rattle.play_rules.specs.Laws.{HasNoPawnOnEnds}
use Rattle.men_account.specs.Account.{accounts_for}
use Rattle.query_base.specs.Asked.{Asked}
use Rattle.query_base.specs.declared.rule_lines.RuleLine.{RuleLine}
use Rattle.query_base.specs.declared.rule_lines.RuleLine.TheVariants.{Kings, Ranks, Check, Rights, Count, Frozen, Caps, Promo}
use Rattle.static_rules.specs.SetRules.{CapsSupports, FrozenSupports, PromoSupports}

-- Article 3.8: of each right that is held neither the king nor the rook was left out, and both, of its colour, stand at home
pub record HasRightsHomes (q : Asked) : Type 0 where
  pub begun : (x : Castle) → IsTrue (holds q.held x) → lacks_home q.odds x ≡ false
  pub at_home : HaveHomes q.board q.held

-- Article 2.2: not each colour has exactly one king. Article 3.7: a pawn stands on rank 1 or 8. Article 3.9: some king of the side
-- not to move is attacked. Article 3.8: the king or the rook of a right that is held was left out, or isn't at home. Articles 2.2
-- and 3.7: the side has more pawns, and men that must have been pawns, than the pawns that it began with, where men who were left
-- out aren't counted. The other three speak of sets of squares that are frozen: the rules on frozen sets, on captures by pawns and
-- on promoted men, in the array at the query's odds.
abbrev pub Supports : Asked → RuleLine → Type 0
Supports q Kings = HasOneKingEach q.board → ⊥
Supports q Ranks = HasNoPawnOnEnds q.board → ⊥
Supports q Check = IsTrue (in_check q.board (opponent q.turn))
Supports q Rights = HasRightsHomes q → ⊥
Supports q (Count side) = IsTrue (accounts_for q.odds q.board side) → ⊥
Supports q (Frozen set) = FrozenSupports q.odds q set
Supports q (Caps side set p) = CapsSupports q.odds q side set p.u p.v
Supports q (Promo side set) = PromoSupports q.odds q side set

-- some rule line supports the query
abbrev pub IsClosed : Asked → Type 0
IsClosed q = (rule : RuleLine) × Supports q rule
