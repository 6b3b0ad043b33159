-- Small frozen sets of sketches, zones and rooms.
use Rattle.std.proofs.Common.{◌≡◌, ℕ, ◌<◌, ◌==◌, inl, inr, Bool, true, false, ◌||◌, not, List, [], ◌∷◌, refl, ap, sym, ◌∙◌, subst, arith}
use Rattle.std.proofs.lemmas.Bool.{and_parts, both_ways, eqb-true, false_from_ne_true, not-true, or_cases, or_right}
use Rattle.std.proofs.lemmas.Option.{same_Some}
use Rattle.std.specs.Prelude.{Some}
use Rattle.std.specs.List.{list_all, range_with_len}
use Rattle.general_lemmas.proofs.Ranges.{all_in_range}
use Rattle.board_base.specs.Board.{array_of, at, initial_array, is_in, man, no_odds}
use Rattle.board_base.specs.Attacks.{distance, kind_attacks, king_distance, on_the_way, toward}
use Rattle.board_base.specs.Rights.{Rights, no_rights}
use Rattle.board_base.specs.declared.men.Colour.TheVariants.{White, Black}
use Rattle.board_base.specs.declared.men.Kind.TheVariants.{Pawn, Bishop, Rook, King}
use Rattle.board_base.specs.declared.men.Man.{Man}
use Rattle.cage_rules.specs.Frozen.{is_entry, is_held_home, is_plain_entry}
use Rattle.cage_rules.specs.Regions.{walls}
use Rattle.cage_rules.specs.Sets.{squares_that}
use Rattle.cage_rules.proofs.Filling.{in-that, is_in-that}
use Rattle.past_sketches.specs.Figures.{Figure, Sketch, is_fixed_on, only_on}
use Rattle.past_account.specs.Closes.{Closes, foreign}
use Rattle.past_account.specs.Frozen.{IsBarred, IsFrozenIn, figure_enters}
use Rattle.past_account.specs.Zones.{IsZone, goes_on, roams_past, room_past}
use Rattle.past_account.proofs.InZones.{held-inside}
use Rattle.past_account.proofs.Reached.{reached-least}

-- FROZEN SETS

-- White's pawn on b2, and Black's bishop on a1, who was never promoted
pawn_b2 : Figure
pawn_b2 = record { colour = White; kinds = Pawn ∷ []; squares = only_on 9; marked = false; place = 0 }

bishop_a1 : Figure
bishop_a1 = record { colour = Black; kinds = Bishop ∷ []; squares = only_on 0; marked = true; place = 0 }

corner : Sketch
corner = bishop_a1 ∷ pawn_b2 ∷ []

corner_set : List Bool
corner_set = squares_that (λ s. (s == 0) || (s == 9))

bishop-entries : list_all (λ t. not (figure_enters bishop_a1 0 t) || is_in corner_set t) (range_with_len 0 64) ≡ true
unfolding bishop_a1 corner_set squares_that is_plain_entry distance king_distance
bishop-entries = refl

-- with no mark he may have been promoted on a1 from a2
unmarked-enters : figure_enters (record bishop_a1 { marked = false }) 0 8 ≡ true
unfolding bishop_a1 is_entry distance king_distance
unmarked-enters = refl

pawn-entries : list_all (λ t. not (figure_enters pawn_b2 9 t) || is_in corner_set t) (range_with_len 0 64) ≡ true
unfolding pawn_b2 corner_set squares_that is_entry
pawn-entries = refl

entry-in : (f : Figure) (s : ℕ) → list_all (λ t. not (figure_enters f s t) || is_in corner_set t) (range_with_len 0 64) ≡ true → (t : ℕ) → t < 64 → figure_enters f s t ≡ true → is_in corner_set t ≡ true
entry-in f s all t inside enters = elim (or_cases (not (figure_enters f s t)) (is_in corner_set t) (all_in_range (λ u. not (figure_enters f s u) || is_in corner_set u) 0 64 t all (omega arith) (omega (arith, inside)))) [
  | inl none ↦ absurd (both_ways _ (not-true _ none) enters)
  | inr there ↦ there
]

fixed_on-a1 : is_fixed_on 0 bishop_a1 ≡ true
unfolding bishop_a1 squares_that
fixed_on-a1 = refl

fixed_on-b2 : is_fixed_on 9 pawn_b2 ≡ true
unfolding pawn_b2 squares_that
fixed_on-b2 = refl

corner-frozen : IsFrozenIn no_rights corner corner_set
unfolding corner corner_set
corner-frozen s member = elim (or_cases (s == 0) (s == 9) (in-that (λ t. (t == 0) || (t == 9)) s member).1) [
  | inl first ↦ subst (IsBarred no_rights corner corner_set) (sym (eqb-true s 0 first)) (record { number = 0; figure = bishop_a1; there = refl; fixed = fixed_on-a1; barred = inr (entry-in bishop_a1 0 bishop-entries) })
  | inr second ↦ subst (IsBarred no_rights corner corner_set) (sym (eqb-true s 9 second)) (record { number = 1; figure = pawn_b2; there = refl; fixed = fixed_on-b2; barred = inr (entry-in pawn_b2 9 pawn-entries) })
]

in-corner : is_in corner_set 0 ≡ true
unfolding corner_set squares_that
in-corner = refl

rook-begins : at (array_of no_odds) 0 ≡ man White Rook
unfolding array_of initial_array
rook-begins = refl

-- a king at home whose right is held is frozen by himself
king_e1 : Figure
king_e1 = record { colour = White; kinds = King ∷ []; squares = only_on 4; marked = false; place = 0 }

may_castle : Rights
may_castle = record { white_short = true; white_long = false; black_short = false; black_long = false }

fixed_on-e1 : is_fixed_on 4 king_e1 ≡ true
unfolding king_e1 squares_that
fixed_on-e1 = refl

held-e1 : is_held_home may_castle 4 ≡ true
unfolding may_castle
held-e1 = refl

king-frozen : IsFrozenIn may_castle (king_e1 ∷ []) (only_on 4)
king-frozen s member = subst (IsBarred may_castle (king_e1 ∷ []) (only_on 4)) (sym (eqb-true s 4 (in-that (λ t. t == 4) s member).1)) (record { number = 0; figure = king_e1; there = refl; fixed = fixed_on-e1; barred = inl held-e1 })

white-black : White ≡ Black → ⊥
white-black e = cc

-- So they stood there from the beginning; but the array has a white rook on a1.
corner-closes : Closes no_odds no_rights corner
unfolding corner bishop_a1
corner-closes = foreign corner_set corner-frozen (λ begun.
    let it = begun 0 0 bishop_a1 in-corner refl fixed_on-a1 in
    no-bishop it.0 (it.1) it.2)
  where
    no-bishop : (m : Man) → at (array_of no_odds) 0 ≡ Some m → m.colour ≡ bishop_a1.colour → ⊥
    no-bishop m stands own = white-black (ap (λ (x : Man). x.colour) (same_Some _ _ (sym rook-begins ∙ stands)) ∙ own)

-- ZONES AND ROOMS

-- White's pawn on a3, who never captured, has only been on a2 and a3, beside whatever stands on b1 and b2
pawn_a3 : Figure
pawn_a3 = record { colour = White; kinds = Pawn ∷ []; squares = only_on 16; marked = true; place = 0 }

beside : List Bool
beside = squares_that (λ s. (s == 1) || (s == 9))

zone_a : List Bool
zone_a = squares_that (λ s. (s == 8) || (s == 16))

abbrev comes_within : ℕ → Bool
comes_within t = list_all (λ z. is_in zone_a z || not (goes_on beside pawn_a3 z t)) (range_with_len 0 64)

within-a2 : comes_within 8 ≡ true
unfolding pawn_a3 beside zone_a squares_that distance
within-a2 = refl

within-a3 : comes_within 16 ≡ true
unfolding pawn_a3 beside zone_a squares_that distance
within-a3 = refl

come-in : (t z : ℕ) → comes_within t ≡ true → goes_on beside pawn_a3 z t ≡ true → is_in zone_a z ≡ true
come-in t z all goes = elim (or_cases (is_in zone_a z) (not (goes_on beside pawn_a3 z t)) (all_in_range (λ y. is_in zone_a y || not (goes_on beside pawn_a3 y t)) 0 64 z all (omega arith) (let inside = held-inside beside z (and_parts _ _ (and_parts _ _ goes).0).0 in omega (arith, inside)))) [
  | inl there ↦ there
  | inr none ↦ absurd (both_ways _ (not-true _ none) goes)
]

zone_a-is : IsZone beside pawn_a3 zone_a
unfolding pawn_a3 zone_a
zone_a-is = record {
  pawn = refl;
  squares = λ s member. let here = in-that (λ t. t == 16) s member in is_in-that (λ t. (t == 8) || (t == 16)) s here.0 ∙ or_right (s == 8) (s == 16) here.1;
  closed = λ z t member goes. elim (or_cases (t == 8) (t == 16) (in-that (λ u. (u == 8) || (u == 16)) t member).1) [
    | inl low ↦ come-in 8 z within-a2 (subst (λ (u : ℕ). goes_on beside pawn_a3 z u ≡ true) (eqb-true t 8 low) goes)
    | inr high ↦ come-in 16 z within-a3 (subst (λ (u : ℕ). goes_on beside pawn_a3 z u ≡ true) (eqb-true t 16 high) goes)
  ];
}

-- so a rook from a1, with b1 and b2 occupied, was on a1 and a2 alone: he would have gone over the whole zone
abbrev leaves_none : ℕ → Bool
leaves_none t = list_all (λ u. (u == 0) || (u == 8) || not (roams_past beside (zone_a ∷ []) (man White Rook) t u)) (range_with_len 0 64)

from-a1 : leaves_none 0 ≡ true
unfolding beside zone_a squares_that walls kind_attacks distance king_distance on_the_way toward
from-a1 = refl

from-a2 : leaves_none 8 ≡ true
unfolding beside zone_a squares_that walls kind_attacks distance king_distance on_the_way toward
from-a2 = refl

abbrev a1_a2 : List Bool
a1_a2 = squares_that (λ s. (s == 0) || (s == 8))

stays-in : (t u : ℕ) → leaves_none t ≡ true → u < 64 → roams_past beside (zone_a ∷ []) (man White Rook) t u ≡ true → is_in a1_a2 u ≡ true
stays-in t u all inside goes = is_in-that (λ s. (s == 0) || (s == 8)) u inside ∙ elim (or_cases ((u == 0) || (u == 8)) (not (roams_past beside (zone_a ∷ []) (man White Rook) t u)) (all_in_range (λ v. (v == 0) || (v == 8) || not (roams_past beside (zone_a ∷ []) (man White Rook) t v)) 0 64 u all (omega arith) (omega (arith, inside)))) [
  | inl there ↦ there
  | inr none ↦ absurd (both_ways _ (not-true _ none) goes)
]

rook-shut : (s : ℕ) → room_past beside (zone_a ∷ []) (man White Rook) 0 s ≡ true → is_in a1_a2 s ≡ true
rook-shut = reached-least (roams_past beside (zone_a ∷ []) (man White Rook)) 0 a1_a2 (omega arith) (is_in-that (λ s. (s == 0) || (s == 8)) 0 (omega arith)) (λ t u ti ui member goes.
    elim (or_cases (t == 0) (t == 8) (in-that (λ s. (s == 0) || (s == 8)) t member).1) [
      | inl first ↦ stays-in 0 u from-a1 ui (subst (λ (v : ℕ). roams_past beside (zone_a ∷ []) (man White Rook) v u ≡ true) (eqb-true t 0 first) goes)
      | inr second ↦ stays-in 8 u from-a2 ui (subst (λ (v : ℕ). roams_past beside (zone_a ∷ []) (man White Rook) v u ≡ true) (eqb-true t 8 second) goes)
    ])

-- he isn't on a4
rook-out : room_past beside (zone_a ∷ []) (man White Rook) 0 24 ≡ false
rook-out = false_from_ne_true _ (λ there. both_ways (is_in a1_a2 24) (is_in-that (λ s. (s == 0) || (s == 8)) 24 (omega arith)) (rook-shut 24 there))
