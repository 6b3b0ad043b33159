-- Inner: no public clause cites this file.
-- On which squares of a side its men begin.
use Rattle.std.specs.Prelude.{ℕ, ◌≡◌, ◌<◌, false, nat_le, IsTrue}
use Rattle.board_base.specs.Board.{same_kind}
use Rattle.board_base.specs.declared.men.Colour.{Colour}
use Rattle.board_base.specs.declared.men.Kind.{Kind}
use Rattle.board_base.specs.declared.men.Kind.TheVariants.{Pawn, King}
use Rattle.cage_rules.specs.Regions.{is_officer_home}
use Rattle.balance_rule.specs.LeastWays.{seen_by}

-- a man of this kind begins on the number n of his side: pawns on 8 to 15, and officers below
pub record BeginsOn (c : Colour) (first : Kind) (n : ℕ) : Type 0 where
  pub pawn : same_kind first Pawn ≡ nat_le 8 n
  pub officer : n < 8 → same_kind first King ≡ false → IsTrue (is_officer_home (seen_by c n))
