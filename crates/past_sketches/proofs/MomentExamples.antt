-- Examples of moments: who stays, a calm board, a step that was made; of moves and of what marks say.
use Rattle.std.proofs.Common.{◌≡◌, ℕ, zero, suc, ◌==◌, Bool, true, false, ◌&&◌, ◌||◌, not, List, [], ◌∷◌, ◌++◌, length, get_or, map, refl, ap, sym, ◌∙◌, subst, ◌<◌, arith}
use Rattle.std.proofs.lemmas.Bool.{and_from, both_ways, eqb-true, lt-ltb, ltb-true}
use Rattle.std.proofs.lemmas.Option.{none-some, same_Some}
use Rattle.std.specs.Prelude.{Option, Some, None, nat_lt, replicate}
use Rattle.std.specs.List.{list_all, list_any, range_with_len}
use Rattle.general_lemmas.proofs.Ranges.{all_in_range, any-found}
use Rattle.board_base.specs.Board.{Places, array_of, at, initial_array, is_in, is_the, man, no_odds, same_colour}
use Rattle.board_base.specs.Attacks.{distance, kind_attacks, king_distance, on_the_way, toward}
use Rattle.board_base.specs.Game.{board_after}
use Rattle.board_base.specs.Rights.{no_rights}
use Rattle.board_base.specs.declared.men.Colour.{Colour}
use Rattle.board_base.specs.declared.men.Colour.TheVariants.{White, Black}
use Rattle.board_base.specs.declared.men.Kind.{Kind}
use Rattle.board_base.specs.declared.men.Kind.TheVariants.{Pawn, Rook, Queen, King}
use Rattle.board_base.specs.declared.men.Man.{Man}
use Rattle.board_base.specs.declared.moves.Move.{Move}
use Rattle.play_rules.proofs.Games.{no_moves}
use Rattle.play_rules.proofs.Kings.{length-after, within as within-board}
use Rattle.cage_rules.specs.Asked.{Asked}
use Rattle.men_account.specs.Labels.{first_labels, label_at, labels_after}
use Rattle.cage_rules.specs.Laws.{Walled}
use Rattle.cage_rules.specs.Regions.{walls}
use Rattle.cage_rules.specs.Sets.{squares_that}
use Rattle.cage_rules.proofs.Filling.{in-that, is_in-that}
use Rattle.past_sketches.specs.Figures.{Figure, IsAbove, IsWider, Sketch, KeepsPlaces, figure_at, fixed_squares, only_on, sketch_of}
use Rattle.past_sketches.specs.Fits.{Fits, is_plain}
use Rattle.past_sketches.specs.Moments.{FitsStep, IsCalm}
use Rattle.past_sketches.specs.Steps.{Step, is_deed, is_step, taken_back}
use Rattle.past_sketches.specs.Touching.{guarded_squares, kings_of, touched_squares, touches}
use Rattle.past_sketches.specs.Clashes.{is_clash}
use Rattle.past_sketches.specs.Closed.{has_room, is_quiet_way}
use Rattle.past_sketches.proofs.Drawn.{none-held}
use Rattle.past_sketches.proofs.Queries.{query-fits}
use Rattle.past_sketches.proofs.Wider.{fits-wider, man-inside}

-- WHO STAYS

king-label : label_at (labels_after no_odds []) 4 ≡ Some 4
unfolding first_labels array_of initial_array
king-label = refl

first-label : (before after : List Move) (s : ℕ) → [] ≡ before ++ after → s ≡ 4 → label_at (labels_after no_odds before) s ≡ Some s
first-label [] after s e same = subst (λ (t : ℕ). label_at (labels_after no_odds []) t ≡ Some t) (sym same) king-label
first-label (m ∷ before) after s e same = cc

-- before the first move White's king on e1 is the one who began there
king-stays : Walled no_odds [] (only_on 4)
king-stays = record {
  game = no_moves no_odds;
  labels = λ before begins s member. first-label before begins.0 s begins.1 (eqb-true s 4 (in-that (λ t. t == 4) s member).1);
}

-- and nobody is on d4 who could stay
nobody-stays : Walled no_odds [] (only_on 27) → ⊥
unfolding first_labels array_of initial_array
nobody-stays walled = none-some 27 (walled.labels [] ([], refl) 27 (is_in-that (λ t. t == 27) 27 (omega arith)))

-- A CALM BOARD

-- a white pawn on a1 touches no king on b1
pawn-calm : IsCalm (man White Pawn ∷ man Black King ∷ []) White
unfolding touches kind_attacks
pawn-calm zero zero m there own king near = both_ways false refl king
pawn-calm zero (suc zero) m there own king near = both_ways false refl (subst (λ (k : Man). touches White k.kind 0 1 ≡ true) (sym (same_Some _ _ there)) near)
pawn-calm zero (suc (suc q)) m there own king near = both_ways false refl king
pawn-calm (suc zero) q m there own king near = both_ways false refl (ap (same_colour White) (ap (λ (k : Man). k.colour) (same_Some _ _ there) ∙ sym own))
pawn-calm (suc (suc e)) q m there own king near = cc

-- a white rook does
rook-checks : IsCalm (man White Rook ∷ man Black King ∷ []) White → ⊥
unfolding touches kind_attacks distance king_distance on_the_way toward
rook-checks calm = calm 0 1 (record { colour = White; kind = Rook }) refl refl refl refl

-- A STEP THAT WAS MADE

-- the array without all men but the kings and the white pawn of a2
one_pawn : List Bool
one_pawn = squares_that (λ s. not ((s == 4) || (s == 8) || (s == 60)))

anywhere : Colour → ℕ → Figure
anywhere c n = record { colour = c; kinds = King ∷ []; squares = replicate 64 true; marked = false; place = n }

-- White's pawn has come to a3, on an exact file, and the kings may be anywhere
on_a3 : Sketch
on_a3 = anywhere White 0 ∷ record { colour = White; kinds = Pawn ∷ []; squares = only_on 16; marked = false; place = 1 } ∷ anywhere Black 7 ∷ []

-- it made the step from a2
from_a2 : Step
from_a2 = record { by = 1; from = 8; to = 16; taken = None; passing = false; place = 1 }

asked : Asked
asked = record { board = board_after one_pawn []; turn = White; odds = one_pawn; held = no_rights; only = None; barred = None; clock = None }

begun : Fits one_pawn [] (sketch_of (board_after one_pawn []))
unfolding asked
begun = query-fits one_pawn [] asked (record { game = no_moves one_pawn; board = refl; held = λ x has. absurd (none-held x has) })

-- the places are in the same order, as a test shows
abbrev places : Sketch → List ℕ
places S = map (λ f. f.place) S

place-at : (S : Sketch) (i : ℕ) (f : Figure) → figure_at S i ≡ Some f → (i < length S) × (f.place ≡ get_or (places S) i 0)
place-at [] i f e = cc
place-at (g ∷ S) zero f e = (omega arith, ap (λ (x : Figure). x.place) (sym (same_Some g f e)))
place-at (g ∷ S) (suc i) f e = let more = place-at S i f e in (omega (arith, more.0), more.1)

abbrev are_in_order : ℕ → List ℕ → List ℕ → Bool
are_in_order n a b = list_all (λ i. list_all (λ j. not (nat_lt (get_or a i 0) (get_or a j 0)) || nat_lt (get_or b i 0) (get_or b j 0)) (range_with_len 0 n)) (range_with_len 0 n)

given : (x y : Bool) → (not x || y) ≡ true → x ≡ true → y ≡ true
given true y h e = h
given false y h e = absurd (both_ways false refl e)

kept-by : (S T : Sketch) (n : ℕ) → length S ≡ n → are_in_order n (places S) (places T) ≡ true → KeepsPlaces S T
kept-by S T n size test i j f g f' g' a b d e low =
    let x = place-at S i f a in
    let y = place-at S j g b in
    let x' = place-at T i f' d in
    let y' = place-at T j g' e in
    let row = all_in_range (λ i. list_all (λ j. not (nat_lt (get_or (places S) i 0) (get_or (places S) j 0)) || nat_lt (get_or (places T) i 0) (get_or (places T) j 0)) (range_with_len 0 n)) 0 n i test (omega arith) (let h = x.0 in omega (arith, h, size)) in
    let here = all_in_range (λ j. not (nat_lt (get_or (places S) i 0) (get_or (places S) j 0)) || nat_lt (get_or (places T) i 0) (get_or (places T) j 0)) 0 n j row (omega arith) (let h = y.0 in omega (arith, h, size)) in
    let under = ltb-true _ _ (given (nat_lt (get_or (places S) i 0) (get_or (places S) j 0)) (nat_lt (get_or (places T) i 0) (get_or (places T) j 0)) here (lt-ltb _ _ (let p = x.1 in let q = y.1 in omega (arith, low, p, q)))) in
    let p = x'.1 in
    let q = y'.1 in
    omega (arith, under, p, q)

within : (c : Colour) (k : Kind) (s n m : ℕ) (to : List Bool) → is_in to s ≡ true → IsWider (record { colour = c; kinds = k ∷ []; squares = only_on s; marked = false; place = n }) (record { colour = c; kinds = k ∷ []; squares = to; marked = false; place = m })
within c k s n m to there = record {
  colour = refl;
  kinds = λ j may. may;
  squares = λ t member. subst (λ (u : ℕ). is_in to u ≡ true) (sym (eqb-true t s (in-that (λ u. u == s) t member).1)) there;
  marked = λ h. h;
}

-- before it he was on a2, and the kings were anywhere else
above-places : KeepsPlaces (sketch_of (board_after one_pawn [])) (taken_back on_a3 from_a2)
unfolding one_pawn on_a3 from_a2 anywhere sketch_of array_of initial_array squares_that taken_back distance
above-places = kept-by (sketch_of (board_after one_pawn [])) (taken_back on_a3 from_a2) 3 refl refl

above : IsAbove (sketch_of (board_after one_pawn [])) (taken_back on_a3 from_a2)
unfolding one_pawn on_a3 from_a2 anywhere sketch_of array_of initial_array squares_that taken_back distance
above = record {
  wider = (within White King 4 0 1 _ refl, (within White Pawn 8 1 2 _ refl, (within Black King 60 7 15 _ refl, tt)));
  places = above-places;
}

made : is_step (true ∷ []) on_a3 from_a2 ≡ true
unfolding on_a3 from_a2 anywhere fixed_squares squares_that is_step distance
made = refl

abbrev pawn_on_a3 : Figure
pawn_on_a3 = record { colour = White; kinds = Pawn ∷ []; squares = only_on 16; marked = false; place = 1 }

moved : figure_at on_a3 from_a2.by ≡ Some pawn_on_a3
unfolding on_a3 from_a2
moved = refl

abbrev hits : Option Man → ℕ → Bool
hits None e = false
hits (Some m) e = same_colour White m.colour && list_any (λ q. is_the Black King (at (board_after one_pawn []) q) && touches White m.kind e q) (range_with_len 0 64)

none-hit : list_any (λ e. hits (at (board_after one_pawn []) e) e) (range_with_len 0 64) ≡ false
unfolding one_pawn squares_that array_of initial_array touches kind_attacks distance king_distance on_the_way toward
none-hit = refl

calm : IsCalm (board_after one_pawn []) White
calm e q m there own king near =
    let board : Places = board_after one_pawn [] in
    let ei : e < 64 = man-inside board e m (length-after one_pawn [] (no_moves one_pawn)) there in
    let qi : q < 64 = rw (← length-after one_pawn [] (no_moves one_pawn)) (within-board (is_the Black King) board q refl king) in
    let hit : hits (Some m) e ≡ true = and_from _ _ (ap (same_colour White) (sym own)) (any-found (λ q. is_the Black King (at board q) && touches White m.kind e q) 0 64 q (omega arith) (omega (arith, qi)) (and_from _ _ king near)) in
    both_ways _ none-hit (any-found (λ e. hits (at board e) e) 0 64 e (omega arith) (omega (arith, ei)) (ap (λ (p : Option Man). hits p e) there ∙ hit))

-- it was there at the start, and touched no king
step-made : FitsStep one_pawn [] (true ∷ []) on_a3
step-made = record {
  step = from_a2;
  made = made;
  mover = pawn_on_a3;
  moved = moved;
  first = [];
  rest = [];
  split = refl;
  fits = fits-wider one_pawn [] (sketch_of (board_after one_pawn [])) (taken_back on_a3 from_a2) begun above;
  calm = calm;
}

-- WHAT ELSE IS SAID OF MOVES AND MEN

-- a pawn's move straight on is a deed on an exact file alone, its capture everywhere
pawn_a2 : Places
pawn_a2 = replicate 8 None ++ (man White Pawn ∷ [])

deeds : (is_deed [] pawn_a2 (record { from = 8; to = 16; promo = None }) ≡ false) × (is_deed (true ∷ []) pawn_a2 (record { from = 8; to = 16; promo = None }) ≡ true) × (is_deed [] pawn_a2 (record { from = 8; to = 17; promo = None }) ≡ true)
unfolding pawn_a2 is_deed
deeds = (refl, refl, refl)

-- before the first move the pawn of a2 has never captured; no queen who began there was never promoted, but one who began on d1
plain-men : (is_plain no_odds [] 8 (record { colour = White; kind = Pawn }) ≡ true) × (is_plain no_odds [] 8 (record { colour = White; kind = Queen }) ≡ false) × (is_plain no_odds [] 3 (record { colour = White; kind = Queen }) ≡ true)
unfolding array_of initial_array
plain-men = (refl, refl, refl)

-- a figure without a square clashes
nowhere-clashes : is_clash (record { colour = White; kinds = Rook ∷ []; squares = []; marked = false; place = 0 } ∷ []) ≡ true
unfolding is_clash
nowhere-clashes = refl

-- nobody comes to the home of a right that is held
king_on_e1 : Figure
king_on_e1 = record { colour = White; kinds = King ∷ []; squares = only_on 4; marked = false; place = 0 }

held-homes : (is_quiet_way no_rights (king_on_e1 ∷ []) White King 12 4 ≡ true) × (is_quiet_way (record no_rights { white_short = true }) (king_on_e1 ∷ []) White King 12 4 ≡ false)
unfolding king_on_e1 fixed_squares squares_that kind_attacks distance king_distance on_the_way toward walls touched_squares guarded_squares kings_of touches
held-homes = (refl, refl)

-- on an exact file a pawn has no quiet way
exact-files : (has_room [] [] king_on_e1 Pawn 8 ≡ true) × (has_room (true ∷ []) [] king_on_e1 Pawn 8 ≡ false)
exact-files = (refl, refl)
