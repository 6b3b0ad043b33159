-- Inner: no public clause cites this file.
-- Counts of men that are made square by square.
use Rattle.std.specs.Prelude.{ℕ, ◌+◌, ◌<◌, cond, Option, Some, None}
use Rattle.board_base.specs.Board.{same_colour}
use Rattle.board_base.specs.declared.men.Colour.{Colour}
use Rattle.board_base.specs.declared.men.Kind.{Kind}
use Rattle.board_base.specs.declared.men.Kind.TheVariants.{Pawn, Knight, Bishop, Rook, Queen, King}
use Rattle.board_base.specs.declared.men.Man.{Man}
use Rattle.men_account.specs.Account.{is_light}
use Rattle.men_account.specs.declared.tallies.Counts.{Counts}

-- no man at all
abbrev pub no_men_counted : Counts
no_men_counted = record { pawns = 0; knights = 0; light_bishops = 0; dark_bishops = 0; rooks = 0; queens = 0; kings = 0 }

-- one man more, of this kind and on this square
abbrev pub with_man : Counts → Kind → ℕ → Counts
with_man n Pawn s = record n { pawns = n.pawns + 1 }
with_man n Knight s = record n { knights = n.knights + 1 }
with_man n Bishop s = cond (is_light s) (record n { light_bishops = n.light_bishops + 1 }) (record n { dark_bishops = n.dark_bishops + 1 })
with_man n Rook s = record n { rooks = n.rooks + 1 }
with_man n Queen s = record n { queens = n.queens + 1 }
with_man n King s = record n { kings = n.kings + 1 }

-- and what stands on this square, if it is a man of this side
abbrev pub with_place : Counts → Colour → Option Man → ℕ → Counts
with_place n side None s = n
with_place n side (Some m) s = cond (same_colour side m.colour) (with_man n m.kind s) n

-- each of the counts is below this number
pub record AreBelow (limit : ℕ) (n : Counts) : Type 0 where
  pub pawns : n.pawns < limit
  pub knights : n.knights < limit
  pub light_bishops : n.light_bishops < limit
  pub dark_bishops : n.dark_bishops < limit
  pub rooks : n.rooks < limit
  pub queens : n.queens < limit
  pub kings : n.kings < limit
