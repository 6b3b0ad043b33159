-- The classes of squares, what prices and gates tell of them, and numbers that are no prices.
use Rattle.std.proofs.Common.{◌≡◌, true, false, [], ◌∷◌, ◌++◌, refl}
use Rattle.std.specs.Prelude.{replicate}
use Rattle.std.specs.List.{range_with_len}
use Rattle.board_base.specs.declared.men.Colour.TheVariants.{White, Black}
use Rattle.capture_prices.specs.Prices.{PriceList, all_gates, are_prices, class_of, gate, priced, take}

-- a1 is the first dark square of the a file, b1 and e4 are light, h8 is dark, and h1 is of the last class
class_a1 : class_of 0 ≡ 0
class_a1 = refl

class_b1 : class_of 1 ≡ 3
class_b1 = refl

class_e4 : class_of 28 ≡ 9
class_e4 = refl

class_h8 : class_of 63 ≡ 14
class_h8 = refl

class_h1 : class_of 7 ≡ 15
class_h1 = refl

-- White's pawns pay the number of the class, Black's 5 on each square; a gate of 12 stands on e3, and one of 96 on e4
by_class : PriceList
by_class = priced (range_with_len 0 16) (replicate 16 5) (record { square = 20; toll = 12 } ∷ record { square = 28; toll = 96 } ∷ [])

are_by_class : are_prices by_class ≡ true
unfolding by_class
are_by_class = refl

white_on_e4 : take by_class White 28 ≡ 9
unfolding by_class
white_on_e4 = refl

black_on_e4 : take by_class Black 28 ≡ 5
unfolding by_class
black_on_e4 = refl

gate_e3 : gate by_class 20 ≡ 12
unfolding by_class
gate_e3 = refl

gate_e5 : gate by_class 36 ≡ 0
unfolding by_class
gate_e5 = refl

gates_together : all_gates by_class ≡ 108
unfolding by_class
gates_together = refl

-- fifteen numbers, a price of 97, a gate of nothing, one of 97, one beyond h8, and two gates out of order, or on one square
fifteen : are_prices (priced (replicate 15 0) (replicate 16 0) []) ≡ false
fifteen = refl

too_dear : are_prices (priced (replicate 16 0) (replicate 15 0 ++ 97 ∷ []) []) ≡ false
too_dear = refl

no_toll : are_prices (priced (replicate 16 0) (replicate 16 0) (record { square = 20; toll = 0 } ∷ [])) ≡ false
no_toll = refl

too_high : are_prices (priced (replicate 16 0) (replicate 16 0) (record { square = 20; toll = 97 } ∷ [])) ≡ false
too_high = refl

off_the_board : are_prices (priced (replicate 16 0) (replicate 16 0) (record { square = 64; toll = 1 } ∷ [])) ≡ false
off_the_board = refl

out_of_order : are_prices (priced (replicate 16 0) (replicate 16 0) (record { square = 28; toll = 1 } ∷ record { square = 20; toll = 1 } ∷ [])) ≡ false
out_of_order = refl

twice_there : are_prices (priced (replicate 16 0) (replicate 16 0) (record { square = 20; toll = 1 } ∷ record { square = 20; toll = 1 } ∷ [])) ≡ false
twice_there = refl
