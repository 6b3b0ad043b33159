-- How many men a side has of each kind, and how many of them must have been pawns.
use Rattle.std.specs.Prelude.{ℕ, ◌+◌, ◌-◌, ◌%◌, Bool, true, not, ◌==◌, nat_le, ◌&&◌, List}
use Rattle.std.specs.List.{count_by, range_with_len}
use Rattle.board_base.specs.Board.{Places, array_of, at, is_the, file, rank}
use Rattle.board_base.specs.declared.men.Colour.{Colour}
use Rattle.board_base.specs.declared.men.Kind.{Kind}
use Rattle.board_base.specs.declared.men.Kind.TheVariants.{Pawn, Knight, Bishop, Rook, Queen, King}
use Rattle.men_account.specs.declared.tallies.Counts.{Counts}
use Rattle.men_account.specs.declared.tallies.Allowance.{Allowance}

-- Article 2.1: the square is light: a1 is dark, h1 and a8 are light
abbrev pub is_light : ℕ → Bool
is_light s = (file s + rank s) % 2 == 1

-- Article 2.1: the square is dark
abbrev pub is_dark : ℕ → Bool
is_dark s = not (is_light s)

-- every square
abbrev pub is_any : ℕ → Bool
is_any s = true

-- how many men of this colour and kind stand on squares that pass this test
unfoldable pub men : Colour → Kind → (ℕ → Bool) → Places → ℕ
men c k among board = count_by (λ s. is_the c k (at board s) && among s) (range_with_len 0 64)

-- the men of a side, the bishops told apart by the colour of their squares
abbrev pub counts_of : Colour → Places → Counts
counts_of c board = record {
  pawns = men c Pawn is_any board;
  knights = men c Knight is_any board;
  light_bishops = men c Bishop is_light board;
  dark_bishops = men c Bishop is_dark board;
  rooks = men c Rook is_any board;
  queens = men c Queen is_any board;
  kings = men c King is_any board;
}

-- Articles 2.2 and 2.3: the pawns and the officers of a side in the array
abbrev pub full_allowance : Allowance
full_allowance = record { pawns = 8; knights = 2; light_bishops = 1; dark_bishops = 1; rooks = 2; queens = 1 }

-- the pawns with which a side begins on this first board, and the officers with which it begins there on homes that pass the test
abbrev pub allowance_of : Colour → (ℕ → Bool) → Places → Allowance
allowance_of c alive first = record {
  pawns = men c Pawn is_any first;
  knights = men c Knight alive first;
  light_bishops = men c Bishop (λ s. is_light s && alive s) first;
  dark_bishops = men c Bishop (λ s. is_dark s && alive s) first;
  rooks = men c Rook alive first;
  queens = men c Queen alive first;
}

-- the pawns, and what the count of each other kind is above its allowance
abbrev pub excess_of : Counts → Allowance → ℕ
excess_of n a =
    n.pawns + (n.queens - a.queens) + (n.rooks - a.rooks) + (n.knights - a.knights) + (n.light_bishops - a.light_bishops) + (n.dark_bishops - a.dark_bishops)

-- Articles 2.2 and 3.7: a side's pawns and its men that must have been promoted are at most the pawns with which it begins, where the
-- array lacks the men on the squares of o
unfoldable pub accounts_for : List Bool → Places → Colour → Bool
accounts_for o board c =
    let a : Allowance = allowance_of c is_any (array_of o) in nat_le (excess_of (counts_of c board) a) a.pawns
