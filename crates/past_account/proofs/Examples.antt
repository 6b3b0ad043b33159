-- Small sketches that an account closes, or in which it forces a mark.
use Rattle.std.specs.Prelude.{replicate}
use Rattle.std.proofs.Common.{◌≡◌, ℕ, ◌==◌, Bool, true, false, ◌||◌, not, List, [], ◌∷◌, refl, arith}
use Rattle.std.proofs.lemmas.Bool.{both_ways}
use Rattle.general_lemmas.proofs.Lists.{contains-none}
use Rattle.board_base.specs.Board.{array_of, initial_array, is_in, men_squares, no_odds}
use Rattle.board_base.specs.Attacks.{distance}
use Rattle.board_base.specs.Rights.{no_rights}
use Rattle.board_base.specs.declared.men.Colour.{Colour}
use Rattle.board_base.specs.declared.men.Colour.TheVariants.{White, Black}
use Rattle.board_base.specs.declared.men.Kind.{Kind}
use Rattle.board_base.specs.declared.men.Kind.TheVariants.{Pawn, King}
use Rattle.board_base.specs.declared.moves.Move.{Move}
use Rattle.board_base.proofs.Without.{in-none}
use Rattle.assignment.specs.Assignments.{injections, least_cost}
use Rattle.capture_prices.specs.Prices.{PriceList, priced}
use Rattle.cage_rules.specs.Sets.{squares_that}
use Rattle.balance_rule.specs.Balance.{most_cost}
use Rattle.balance_rule.specs.Costs.{ways_from, ways_with_len}
use Rattle.past_sketches.specs.Figures.{Figure, Sketch}
use Rattle.past_sketches.specs.Moments.{FitsGame}
use Rattle.past_account.specs.Account.{against, by_marks, figure_comes, figure_row, figure_table, figures_cost, lost_row}
use Rattle.past_account.specs.Closes.{Forces, costs}
use Rattle.past_account.specs.Limits.{pawn_comes}
use Rattle.past_account.specs.Zones.{room_past}
use Rattle.past_account.proofs.Closed.{closed-unfit}

-- each capture by a pawn has the price 24, and there are no gates
abbrev equal_prices : PriceList
equal_prices = priced (replicate 16 24) (replicate 16 24) []

-- the array without all men but the kings and the white pawn of a2
one_pawn : List Bool
one_pawn = squares_that (λ s. not ((s == 4) || (s == 8) || (s == 60)))

-- each capture by a pawn has the price 24, and there are no gates
abbrev even_prices : PriceList
even_prices = priced (replicate 16 24) (replicate 16 24) []

abbrev figure : Colour → Kind → (ℕ → Bool) → Figure
figure c k on = record { colour = c; kinds = k ∷ []; squares = squares_that on; marked = false; place = 0 }

-- kings on their homes, and a white pawn on b3 or b4
on_b : Sketch
on_b = figure White Pawn (λ s. (s == 17) || (s == 25)) ∷ figure White King (λ s. s == 4) ∷ figure Black King (λ s. s == 60) ∷ []

-- the same with a white pawn on a3 or a4
on_a : Sketch
on_a = figure White Pawn (λ s. (s == 16) || (s == 24)) ∷ figure White King (λ s. s == 4) ∷ figure Black King (λ s. s == 60) ∷ []

nobody : (s : ℕ) → is_in no_odds s ≡ true → ⊥
nobody s member = both_ways (is_in no_odds s) (in-none 64 s) member

b_white : figures_cost one_pawn even_prices no_odds (room_past no_odds []) (by_marks on_b) White ≡ 216
unfolding one_pawn on_b squares_that figure_table figure_row figure_comes lost_row men_squares array_of initial_array least_cost injections pawn_comes ways_from ways_with_len distance
b_white = refl

b_black : figures_cost one_pawn even_prices no_odds (room_past no_odds []) (by_marks on_b) Black ≡ 96
unfolding one_pawn on_b squares_that figure_table figure_row figure_comes lost_row men_squares array_of initial_array least_cost injections
b_black = refl

pawn_most : most_cost one_pawn even_prices ≡ 288
unfolding one_pawn squares_that men_squares array_of initial_array
pawn_most = refl

-- he took a man, and there was none
b_closed : (g : List Move) → FitsGame one_pawn g no_rights on_b → ⊥
b_closed = closed-unfit one_pawn no_rights on_b (costs no_odds [] even_prices (λ s member. absurd (nobody s member)) (record {
  fixed = λ s member. absurd (nobody s member);
  zones_are = λ zone there. absurd (contains-none zone there);
  prices = refl;
  above = omega (arith, b_white, b_black, pawn_most);
}))

a_white : figures_cost one_pawn even_prices no_odds (room_past no_odds []) (against 0 on_a) White ≡ 240
unfolding one_pawn on_a squares_that figure_table figure_row figure_comes lost_row men_squares array_of initial_array least_cost injections pawn_comes ways_from ways_with_len distance
a_white = refl

a_black : figures_cost one_pawn even_prices no_odds (room_past no_odds []) (against 0 on_a) Black ≡ 96
unfolding one_pawn on_a squares_that figure_table figure_row figure_comes lost_row men_squares array_of initial_array least_cost injections
a_black = refl

-- on file a he took nobody, and may be marked
a_forced : Forces one_pawn no_rights 0 on_a
a_forced = record {
  set = no_odds;
  zones = [];
  prices = even_prices;
  frozen = λ s member. absurd (nobody s member);
  forced = record {
    fixed = λ s member. absurd (nobody s member);
    zones_are = λ zone there. absurd (contains-none zone there);
    prices = refl;
    above = omega (arith, a_white, a_black, pawn_most);
  };
}
