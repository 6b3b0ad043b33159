-- What pawns cost on boards that are written out.
use Rattle.std.proofs.Common.{◌≡◌, ℕ, List, [], ◌∷◌, refl, true}
use Rattle.std.specs.Prelude.{slice_set}
use Rattle.board_base.specs.Attacks.{distance}
use Rattle.board_base.specs.Board.{Places, man, no_men, no_odds}
use Rattle.board_base.specs.declared.men.Colour.{Colour}
use Rattle.board_base.specs.declared.men.Colour.TheVariants.{White, Black}
use Rattle.board_base.specs.declared.men.Kind.TheVariants.{Pawn, Knight}
use Rattle.assignment.specs.Assignments.{injections, least_cost}
use Rattle.pawn_assign.specs.PawnCosts.{pawn_cost, pawn_costs, pawn_row, pawn_squares}

-- the board with pawns of this colour on these squares, and a white knight on a8
abbrev pawns_on : Colour → List ℕ → Places
pawns_on c [] = slice_set no_men 56 (man White Knight)
pawns_on c (s ∷ squares) = slice_set (pawns_on c squares) s (man c Pawn)

abbrev b2 : ℕ
b2 = 9

abbrev c2 : ℕ
c2 = 10

abbrev b3 : ℕ
b3 = 17

abbrev b4 : ℕ
b4 = 25

abbrev d1 : ℕ
d1 = 3

abbrev d8 : ℕ
d8 = 59

abbrev h5 : ℕ
h5 = 39

abbrev h6 : ℕ
h6 = 47

-- a white pawn on b2 began there
white_at_home : pawn_row no_odds White b2 ≡ 64 ∷ 0 ∷ 64 ∷ 64 ∷ 64 ∷ 64 ∷ 64 ∷ 64 ∷ []
unfolding pawn_cost distance
white_at_home = refl

-- one on b3 comes from a, b or c
white_one_ahead : pawn_row no_odds White b3 ≡ 1 ∷ 0 ∷ 1 ∷ 64 ∷ 64 ∷ 64 ∷ 64 ∷ 64 ∷ []
unfolding pawn_cost distance
white_one_ahead = refl

-- a black pawn on h5 comes from f, g or h
black_two_ahead : pawn_row no_odds Black h5 ≡ 64 ∷ 64 ∷ 64 ∷ 64 ∷ 64 ∷ 2 ∷ 1 ∷ 0 ∷ []
unfolding pawn_cost distance
black_two_ahead = refl

-- no pawn comes behind its own home rank, and the other end it may reach
white_behind : pawn_row no_odds White d1 ≡ 64 ∷ 64 ∷ 64 ∷ 64 ∷ 64 ∷ 64 ∷ 64 ∷ 64 ∷ []
unfolding pawn_cost distance
white_behind = refl

black_behind : pawn_row no_odds Black d8 ≡ 64 ∷ 64 ∷ 64 ∷ 64 ∷ 64 ∷ 64 ∷ 64 ∷ 64 ∷ []
unfolding pawn_cost distance
black_behind = refl

white_on_the_last_rank : pawn_row no_odds White d8 ≡ 3 ∷ 2 ∷ 1 ∷ 0 ∷ 1 ∷ 2 ∷ 3 ∷ 4 ∷ []
unfolding pawn_cost distance
white_on_the_last_rank = refl

-- at odds of the pawn on a2, the pawn on b3 comes from b or c
without_a2 : pawn_row (slice_set no_odds 8 true) White b3 ≡ 64 ∷ 0 ∷ 1 ∷ 64 ∷ 64 ∷ 64 ∷ 64 ∷ 64 ∷ []
unfolding pawn_cost distance
without_a2 = refl

-- at odds of Black's pawn on h7, a white pawn costs what it did
without_h7 : pawn_row (slice_set no_odds 55 true) White b3 ≡ pawn_row no_odds White b3
unfolding pawn_cost distance
without_h7 = refl

squares_ascend : pawn_squares White (pawns_on White (b3 ∷ c2 ∷ b2 ∷ [])) ≡ b2 ∷ c2 ∷ b3 ∷ []
unfolding pawn_squares
squares_ascend = refl

squares_of_the_other : pawn_squares Black (pawns_on White (b3 ∷ c2 ∷ b2 ∷ [])) ≡ []
unfolding pawn_squares
squares_of_the_other = refl

-- with pawns on b2 and b3 there was one capture
doubled : least_cost 8 (pawn_costs no_odds White (pawns_on White (b2 ∷ b3 ∷ []))) ≡ 1
unfolding least_cost injections pawn_squares pawn_cost distance
doubled = refl

-- with pawns on b2, c2 and b3 the third came from a
tripled : least_cost 8 (pawn_costs no_odds White (pawns_on White (b2 ∷ c2 ∷ b3 ∷ []))) ≡ 1
unfolding least_cost injections pawn_squares pawn_cost distance
tripled = refl

-- with three pawns on one file there were two captures
on_one_file : least_cost 8 (pawn_costs no_odds White (pawns_on White (b2 ∷ b3 ∷ b4 ∷ []))) ≡ 2
unfolding least_cost injections pawn_squares pawn_cost distance
on_one_file = refl

black_doubled : least_cost 8 (pawn_costs no_odds Black (pawns_on Black (h5 ∷ h6 ∷ []))) ≡ 1
unfolding least_cost injections pawn_squares pawn_cost distance
black_doubled = refl

-- a pawn behind its home rank can't have come
behind : least_cost 8 (pawn_costs no_odds White (pawns_on White (d1 ∷ b2 ∷ []))) ≡ 64
unfolding least_cost injections pawn_squares pawn_cost distance
behind = refl

-- no pawn costs nothing
no_pawn : least_cost 8 (pawn_costs no_odds White (pawns_on White [])) ≡ 0
unfolding least_cost injections pawn_squares pawn_cost distance
no_pawn = refl
