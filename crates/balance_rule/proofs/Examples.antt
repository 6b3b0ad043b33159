-- Small queries that the balance of captures closes, one that it doesn't with a price that is one too low, and what their men cost.
use Rattle.std.proofs.Common.{◌≡◌, ℕ, ◌==◌, Bool, true, false, ◌||◌, not, List, [], ◌∷◌, map, set, refl, arith}
use Rattle.std.proofs.lemmas.Bool.{both_ways}
use Rattle.std.specs.Prelude.{None, replicate}
use Rattle.std.specs.List.{range_with_len}
use Rattle.board_base.specs.Board.{Places, array_of, initial_array, is_in, man, no_men, no_odds, men_squares}
use Rattle.board_base.specs.Attacks.{distance}
use Rattle.board_base.specs.declared.men.Colour.TheVariants.{White, Black}
use Rattle.board_base.specs.declared.men.Kind.TheVariants.{Pawn, King}
use Rattle.board_base.specs.declared.moves.Move.{Move}
use Rattle.board_base.proofs.Without.{in-none}
use Rattle.query_base.specs.Asked.{Asked}
use Rattle.assignment.specs.Assignments.{injections, least_cost}
use Rattle.cage_rules.specs.Reach.{LeadsTo}
use Rattle.static_rules.specs.SetRules.{IsSettled}
use Rattle.capture_prices.specs.Prices.{PriceList, priced}
use Rattle.balance_rule.specs.Balance.{BalanceAt, cost_table, gone_row, most_cost, side_cost, stand_row}
use Rattle.balance_rule.specs.Costs.{never, pawn_stands, ways_from, ways_with_len}
use Rattle.balance_rule.proofs.Sound.{balance-closed}

-- this board at these odds, with nothing else known
abbrev pub shown_at : List Bool → Places → Asked
shown_at o board = record {
  board = board;
  turn = White;
  odds = o;
  held = record { white_short = false; white_long = false; black_short = false; black_long = false };
  only = None;
  barred = None;
  clock = None;
}

abbrev shown : Places → Asked
shown = shown_at no_odds

nobody : (s : ℕ) → is_in no_odds s ≡ true → ⊥
nobody s member = both_ways (is_in no_odds s) (in-none 64 s) member

pub settled : (o odds : List Bool) (board : Places) → IsSettled o (shown_at odds board) no_odds
settled o odds board = record {
  whole = refl;
  frozen = record { occupied = λ s member. absurd (nobody s member); caged = λ s member. absurd (nobody s member) };
  as_array = λ s member. absurd (nobody s member);
}

-- the array without all men but the kings and the white pawn of a2
unfoldable pub one_pawn : List Bool
one_pawn = map (λ s. not ((s == 4) || (s == 8) || (s == 60))) (range_with_len 0 64)

-- he stands on b3, so he took a man, and there was none
unfoldable pub on_b3 : Places
on_b3 = set (set (set no_men 4 (man White King)) 17 (man White Pawn)) 60 (man Black King)

-- each capture by a white pawn costs 1
priced_1 : PriceList
priced_1 = priced (replicate 16 1) (replicate 16 0) []

b3_white : side_cost one_pawn on_b3 priced_1 no_odds White ≡ 193
unfolding one_pawn on_b3 priced_1 cost_table stand_row gone_row men_squares array_of initial_array least_cost injections pawn_stands ways_from ways_with_len distance
b3_white = refl

b3_black : side_cost one_pawn on_b3 priced_1 no_odds Black ≡ 96
unfolding one_pawn on_b3 priced_1 cost_table stand_row gone_row men_squares array_of initial_array least_cost injections
b3_black = refl

b3_most : most_cost one_pawn priced_1 ≡ 288
unfolding one_pawn priced_1 men_squares array_of initial_array
b3_most = refl

b3_supports : BalanceAt one_pawn (shown on_b3) no_odds priced_1
unfolding one_pawn on_b3 priced_1 men_squares array_of initial_array
b3_supports = record {
  settled = settled one_pawn no_odds on_b3;
  prices = refl;
  white = omega arith;
  black = omega arith;
  above = omega (arith, b3_white, b3_black, b3_most);
}

b3_closed : (g : List Move) → LeadsTo one_pawn g (shown on_b3) → ⊥
b3_closed = balance-closed one_pawn (shown on_b3) no_odds priced_1 b3_supports

-- his king can have begun on e1 alone, and the pawn on a2, for the price of b3
abbrev only_from : ℕ → ℕ → List ℕ
only_from j cost = set (replicate 16 never) j cost

b3_table : cost_table priced_1 no_odds White (array_of one_pawn) on_b3 ≡ only_from 4 96 ∷ only_from 8 97 ∷ []
unfolding one_pawn on_b3 priced_1 cost_table stand_row gone_row men_squares array_of initial_array pawn_stands ways_from ways_with_len distance
b3_table = refl

-- with a price that is one lower, that of light squares of the b file, nothing is shown
free_on_b3 : PriceList
free_on_b3 = priced (set (replicate 16 1) 3 0) (replicate 16 0) []

free_white : side_cost one_pawn on_b3 free_on_b3 no_odds White ≡ 192
unfolding one_pawn on_b3 free_on_b3 cost_table stand_row gone_row men_squares array_of initial_array least_cost injections pawn_stands ways_from ways_with_len distance
free_white = refl

free_black : side_cost one_pawn on_b3 free_on_b3 no_odds Black ≡ 96
unfolding one_pawn on_b3 free_on_b3 cost_table stand_row gone_row men_squares array_of initial_array least_cost injections
free_black = refl

free_most : most_cost one_pawn free_on_b3 ≡ 288
unfolding one_pawn free_on_b3 men_squares array_of initial_array
free_most = refl

free_not_closed : BalanceAt one_pawn (shown on_b3) no_odds free_on_b3 → ⊥
free_not_closed h = omega (arith, h.above, free_white, free_black, free_most)

-- the array without all men but the kings and the pawns of a2 and a7
two_pawns : List Bool
two_pawns = map (λ s. not ((s == 4) || (s == 8) || (s == 48) || (s == 60))) (range_with_len 0 64)

-- the pawns stand on a5 and a4, so one took a man to pass the other, and there was none
passed : Places
passed = set (set (set (set no_men 4 (man White King)) 32 (man White Pawn)) 24 (man Black Pawn)) 60 (man Black King)

-- each capture by a pawn costs 1, and so does it to tread a4
gate_on_a4 : PriceList
gate_on_a4 = priced (replicate 16 1) (replicate 16 1) (record { square = 24; toll = 1 } ∷ [])

passed_white : side_cost two_pawns passed gate_on_a4 no_odds White ≡ 193
unfolding two_pawns passed gate_on_a4 cost_table stand_row gone_row men_squares array_of initial_array least_cost injections pawn_stands ways_from ways_with_len distance
passed_white = refl

passed_black : side_cost two_pawns passed gate_on_a4 no_odds Black ≡ 193
unfolding two_pawns passed gate_on_a4 cost_table stand_row gone_row men_squares array_of initial_array least_cost injections pawn_stands ways_from ways_with_len distance
passed_black = refl

passed_most : most_cost two_pawns gate_on_a4 ≡ 385
unfolding two_pawns gate_on_a4 men_squares array_of initial_array
passed_most = refl

passed_supports : BalanceAt two_pawns (shown passed) no_odds gate_on_a4
unfolding two_pawns passed gate_on_a4 men_squares array_of initial_array
passed_supports = record {
  settled = settled two_pawns no_odds passed;
  prices = refl;
  white = omega arith;
  black = omega arith;
  above = omega (arith, passed_white, passed_black, passed_most);
}

passed_closed : (g : List Move) → LeadsTo two_pawns g (shown passed) → ⊥
passed_closed = balance-closed two_pawns (shown passed) no_odds gate_on_a4 passed_supports
