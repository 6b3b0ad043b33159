-- A small query that flat prices support, those on both sides and those on White's captures alone.
use Rattle.std.proofs.Common.{◌≡◌, ℕ, inl, inr, Bool, true, false, ◌&&◌, ◌||◌, List, length, refl, ap, arith}
use Rattle.std.proofs.lemmas.Bool.{and_parts, both_ways, cases_lt, or_cases}
use Rattle.std.proofs.lemmas.List.{get_or_past}
use Rattle.std.specs.Prelude.{None}
use Rattle.std.specs.List.{list_all, list_any, range_with_len}
use Rattle.board_base.specs.Board.{Places, array_of, at, initial_array, is_empty, is_in, men_squares, no_odds}
use Rattle.board_base.specs.Attacks.{distance, king_distance}
use Rattle.board_base.specs.declared.men.Colour.TheVariants.{White, Black}
use Rattle.assignment.specs.Assignments.{injections, least_cost}
use Rattle.cage_rules.specs.Frozen.{IsFrozen, is_entry, may_enter}
use Rattle.cage_rules.proofs.Must.{must-tells}
use Rattle.cage_rules.proofs.Tested.{any-told, at_board}
use Rattle.balance_rule.specs.Balance.{BalanceSupports, cost_table, gone_row, most_cost, side_cost, stand_row}
use Rattle.balance_rule.specs.Costs.{pawn_stands, ways_from, ways_with_len}
use Rattle.balance_rule.proofs.Examples.{on_b3, one_pawn, settled, shown_at}
use Rattle.price_search.specs.FlatPrices.{FlatPricesSupport, flat_prices}
use Rattle.price_search.specs.declared.payers.Payers.{Payers}
use Rattle.price_search.specs.declared.payers.Payers.TheVariants.{Both, WhiteAlone, BlackAlone}

-- some square from which or over which the man on s may have come is empty
abbrev has_way : Places → ℕ → Bool
has_way board s = list_any (λ t. may_enter (at board s) s t && is_empty (at board t)) (range_with_len 0 64)

-- with the pawn on b3 each of the three men has such a square
b3_ways : list_all (λ s. is_empty (at on_b3 s) || has_way on_b3 s) (range_with_len 0 64) ≡ true
unfolding on_b3 is_entry distance king_distance
b3_ways = refl

b3_size : length on_b3 ≡ 64
unfolding on_b3
b3_size = refl

-- so no set with a square is frozen
b3_loose : (o set : List Bool) → IsFrozen (shown_at o on_b3) set → (s : ℕ) → is_in set s ≡ true → ⊥
b3_loose o set frozen s member = elim (cases_lt s 64) [
  | inl inside ↦ elim (or_cases (is_empty (at on_b3 s)) (has_way on_b3 s) (at_board (λ x. is_empty (at on_b3 x) || has_way on_b3 x) s b3_ways inside)) [
    | inl empty ↦ both_ways _ (frozen.occupied s member) empty
    | inr way ↦
        let found = any-told (λ t. may_enter (at on_b3 s) s t && is_empty (at on_b3 t)) 0 64 way in
        let parts = and_parts (may_enter (at on_b3 s) s found.0) (is_empty (at on_b3 found.0)) found.2 in
        elim (frozen.caged s member) [
          | inl home ↦ both_ways false refl home
          | inr caged ↦ both_ways _ (frozen.occupied found.0 (caged found.0 (must-tells on_b3 s found.0 found.1 parts.0))) parts.1
        ]
  ]
  | inr past ↦ both_ways _ (frozen.occupied s member) (ap is_empty (get_or_past on_b3 s None (omega (arith, past, b3_size))))
]

white_cost : side_cost one_pawn on_b3 (flat_prices Both) no_odds White ≡ 216
unfolding one_pawn on_b3 cost_table stand_row gone_row men_squares array_of initial_array least_cost injections pawn_stands ways_from ways_with_len distance
white_cost = refl

black_cost : side_cost one_pawn on_b3 (flat_prices Both) no_odds Black ≡ 96
unfolding one_pawn on_b3 cost_table stand_row gone_row men_squares array_of initial_array least_cost injections
black_cost = refl

most : most_cost one_pawn (flat_prices Both) ≡ 288
unfolding one_pawn men_squares array_of initial_array
most = refl

both_support : BalanceSupports (shown_at one_pawn on_b3) no_odds (flat_prices Both)
unfolding one_pawn on_b3 men_squares array_of initial_array
both_support = record {
  settled = settled one_pawn one_pawn on_b3;
  prices = refl;
  white = omega arith;
  black = omega arith;
  above = omega (arith, white_cost, black_cost, most);
}

white_cost_alone : side_cost one_pawn on_b3 (flat_prices WhiteAlone) no_odds White ≡ 216
unfolding one_pawn on_b3 cost_table stand_row gone_row men_squares array_of initial_array least_cost injections pawn_stands ways_from ways_with_len distance
white_cost_alone = refl

black_cost_alone : side_cost one_pawn on_b3 (flat_prices WhiteAlone) no_odds Black ≡ 96
unfolding one_pawn on_b3 cost_table stand_row gone_row men_squares array_of initial_array least_cost injections
black_cost_alone = refl

most_alone : most_cost one_pawn (flat_prices WhiteAlone) ≡ 288
unfolding one_pawn men_squares array_of initial_array
most_alone = refl

white_supports : BalanceSupports (shown_at one_pawn on_b3) no_odds (flat_prices WhiteAlone)
unfolding one_pawn on_b3 men_squares array_of initial_array
white_supports = record {
  settled = settled one_pawn one_pawn on_b3;
  prices = refl;
  white = omega arith;
  black = omega arith;
  above = omega (arith, white_cost_alone, black_cost_alone, most_alone);
}

-- at any flat prices that do
b3_flat : (payers : Payers) → BalanceSupports (shown_at one_pawn on_b3) no_odds (flat_prices payers) → FlatPricesSupport (shown_at one_pawn on_b3)
b3_flat payers supports = record {
  set = no_odds;
  greatest = λ other frozen as_array s member. absurd (b3_loose one_pawn other frozen s member);
  payers = payers;
  supports = supports;
}

b3_both : FlatPricesSupport (shown_at one_pawn on_b3)
b3_both = b3_flat Both both_support

b3_white_alone : FlatPricesSupport (shown_at one_pawn on_b3)
b3_white_alone = b3_flat WhiteAlone white_supports

-- at Black's alone the pawn's capture costs nothing
white_free : side_cost one_pawn on_b3 (flat_prices BlackAlone) no_odds White ≡ 192
unfolding one_pawn on_b3 cost_table stand_row gone_row men_squares array_of initial_array least_cost injections pawn_stands ways_from ways_with_len distance
white_free = refl
