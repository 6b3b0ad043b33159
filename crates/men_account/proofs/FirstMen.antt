-- What a side begins with in the array.
use Rattle.std.proofs.Common.{◌≡◌, refl}
use Rattle.board_base.specs.Board.{array_of, initial_array, no_odds}
use Rattle.board_base.specs.declared.men.Colour.{Colour}
use Rattle.board_base.specs.declared.men.Colour.TheVariants.{White, Black}
use Rattle.board_base.specs.declared.men.Kind.TheVariants.{Pawn}
use Rattle.men_account.specs.Account.{men, is_any, full_allowance, allowance_of}
use Rattle.men_account.specs.Homes.{men_of}

-- with all homes counted a side has the full allowance, eight pawns, and sixteen men
pub full : (c : Colour) → allowance_of c is_any (array_of no_odds) ≡ full_allowance
unfolding initial_array array_of men
full White = refl
full Black = refl

pub eight : (c : Colour) → men c Pawn is_any (array_of no_odds) ≡ 8
unfolding initial_array array_of men
eight White = refl
eight Black = refl

pub sixteen : (c : Colour) → men_of c is_any (array_of no_odds) ≡ 16
unfolding initial_array array_of men_of
sixteen White = refl
sixteen Black = refl
