-- Prices of captures by pawns, and gates.
use Rattle.std.specs.Prelude.{ℕ, ◌+◌, ◌*◌, ◌%◌, ◌==◌, Bool, true, cond, ◌&&◌, nat_lt, nat_le, List, [], ◌∷◌, length, slice_index}
use Rattle.std.specs.List.{list_all, sum_by}
use Rattle.board_base.specs.Board.{file, rank}
use Rattle.board_base.specs.declared.men.Colour.{Colour}
use Rattle.board_base.specs.declared.men.Colour.TheVariants.{White, Black}
use Rattle.capture_prices.specs.declared.prices.Gate.{Gate}

-- what White's pawns and what Black's pay for a capture on each class of squares, and the gates
pub record PriceList : Type 0 where
  pub white : List ℕ
  pub black : List ℕ
  pub gates : List Gate

-- these prices and gates
abbrev pub priced : List ℕ → List ℕ → List Gate → PriceList
priced white black gates = record { white = white; black = black; gates = gates }

-- the class of a square: its file and its shade, in the order a dark, a light, b dark, b light, up to h light
abbrev pub class_of : ℕ → ℕ
class_of s = 2 * file s + (file s + rank s) % 2

-- what a side's pawns pay for a capture on each class of squares
abbrev pub takes : PriceList → Colour → List ℕ
takes p White = p.white
takes p Black = p.black

-- what a pawn of this colour pays for a capture on the square
abbrev pub take : PriceList → Colour → ℕ → ℕ
take p c s = slice_index (takes p c) (class_of s)

-- the toll of the gate on the square, if one of these stands there
abbrev pub toll_at : List Gate → ℕ → ℕ
toll_at [] s = 0
toll_at (g ∷ gates) s = cond (g.square == s) g.toll (toll_at gates s)

-- what a pawn that never captures pays for treading the square
abbrev pub gate : PriceList → ℕ → ℕ
gate p s = toll_at p.gates s

-- what all gates hold together
abbrev pub all_gates : PriceList → ℕ
all_gates p = sum_by (λ (g : Gate). g.toll) p.gates

-- a price is at most 96
abbrev pub is_low : ℕ → Bool
is_low x = nat_le x 96

-- the gates stand on squares of the board from this one on, in ascending order, each with a toll from 1 to 96
abbrev pub are_ascending : ℕ → List Gate → Bool
are_ascending least [] = true
are_ascending least (g ∷ gates) = nat_le least g.square && nat_lt g.square 64 && nat_le 1 g.toll && is_low g.toll && are_ascending (g.square + 1) gates

-- what is known of all prices: sixteen a side, each from 0 to 96, and at most sixteen gates
abbrev pub are_prices : PriceList → Bool
are_prices p =
    (length p.white == 16) && list_all is_low p.white && (length p.black == 16) && list_all is_low p.black && nat_le (length p.gates) 16 && are_ascending 0 p.gates
