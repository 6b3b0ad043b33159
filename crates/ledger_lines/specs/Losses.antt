-- Which men a side lacks.
use Rattle.std.specs.Prelude.{◌-◌}
use Rattle.board_base.specs.Board.{Places}
use Rattle.board_base.specs.declared.men.Colour.{Colour}
use Rattle.men_account.specs.Account.{counts_of}
use Rattle.ledger_lines.specs.declared.losses.Losses.{Losses}

-- Articles 2.2 and 2.3: how many men of each kind a side has fewer on a board than on the first one, the bishops told apart by the colour of
-- their squares; 0 of a kind of which it has more, as it may after promotions
abbrev pub losses_of : Colour → Places → Places → Losses
losses_of c first board = record {
  queens = (counts_of c first).queens - (counts_of c board).queens;
  rooks = (counts_of c first).rooks - (counts_of c board).rooks;
  dark_bishops = (counts_of c first).dark_bishops - (counts_of c board).dark_bishops;
  light_bishops = (counts_of c first).light_bishops - (counts_of c board).light_bishops;
  knights = (counts_of c first).knights - (counts_of c board).knights;
  pawns = (counts_of c first).pawns - (counts_of c board).pawns;
}
