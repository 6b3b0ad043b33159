-- Examples of sketches and of their ways and steps, small enough to compute. Squares are numbers, a1 is 0 and h8 is 63.
use Rattle.std.proofs.Common.{◌≡◌, ℕ, zero, suc, true, false, List, [], ◌∷◌, ◌++◌, map, refl, subst, arith}
use Rattle.std.proofs.lemmas.Bool.{both_ways}
use Rattle.std.proofs.lemmas.Option.{same_Some}
use Rattle.std.specs.Prelude.{Some, None, replicate}
use Rattle.std.specs.List.{filter, range_with_len}
use Rattle.board_base.specs.Board.{array_of, initial_array, is_in, man, no_odds}
use Rattle.board_base.specs.Attacks.{distance, kind_attacks, king_distance, on_the_way, toward}
use Rattle.board_base.specs.Game.{board_after}
use Rattle.board_base.specs.Rights.{no_rights}
use Rattle.board_base.specs.declared.men.Colour.{Colour}
use Rattle.board_base.specs.declared.men.Colour.TheVariants.{White, Black}
use Rattle.board_base.specs.declared.men.Kind.{Kind}
use Rattle.board_base.specs.declared.men.Kind.TheVariants.{Pawn, Knight, Bishop, Rook, Queen, King}
use Rattle.board_base.specs.declared.moves.Move.{Move}
use Rattle.play_rules.proofs.Games.{no_moves}
use Rattle.cage_rules.specs.Asked.{Asked}
use Rattle.cage_rules.specs.Regions.{walls}
use Rattle.cage_rules.specs.Sets.{squares_that}
use Rattle.past_sketches.specs.Figures.{Figure, IsRearranged, IsWider, Sketch, figure_at, fixed_squares, may_be, only_on, sketch_of}
use Rattle.past_sketches.specs.Touching.{gives_check, guarded_squares, kings_of, side_checks, touched_squares, touches}
use Rattle.past_sketches.specs.Closed.{is_quiet_way}
use Rattle.past_sketches.specs.Homes.{may_be_array}
use Rattle.past_sketches.specs.Clashes.{is_clash, is_crowded}
use Rattle.past_sketches.specs.Known.{known_at, marked_at}
use Rattle.past_sketches.specs.Fits.{Fits}
use Rattle.past_sketches.specs.Moments.{FitsGame}
use Rattle.past_sketches.specs.Steps.{Step, is_step, taken_back}
use Rattle.past_sketches.specs.Trimmed.{trimmed}
use Rattle.past_sketches.proofs.Drawn.{Drawn, drawn, fixed-anywhere, is_spot, none-held, stuck-never}
use Rattle.past_sketches.proofs.Queries.{query-fits}

fixed : Colour → Kind → ℕ → Figure
fixed c k s = record { colour = c; kinds = k ∷ []; squares = only_on s; marked = false; place = 0 }

roaming : Colour → Kind → Figure
roaming c k = record { colour = c; kinds = k ∷ []; squares = replicate 64 true; marked = false; place = 0 }

-- the squares of a figure, as a list
squares_in : Figure → List ℕ
squares_in f = filter (is_in f.squares) (range_with_len 0 64)

-- a king on e1 is a figure fixed there
one_king : sketch_of (None ∷ None ∷ None ∷ None ∷ man White King ∷ []) ≡ fixed White King 4 ∷ []
unfolding sketch_of fixed
one_king = refl

-- before the first move the sketch of the array fits
array_asked : Asked
array_asked = record { board = board_after no_odds []; turn = White; odds = no_odds; held = no_rights; only = None; barred = None; clock = None }

array-fits : Fits no_odds [] (sketch_of (board_after no_odds []))
unfolding array_asked
array-fits = query-fits no_odds [] array_asked (record { game = no_moves no_odds; board = refl; held = λ x has. absurd (none-held x has) })

-- QUIET WAYS

-- a bishop in the corner behind his own pawn
corner : Sketch
corner = fixed White Bishop 0 ∷ fixed White Pawn 9 ∷ []

-- has no way there from the pawn's square nor from beyond it
corner-shut : (is_quiet_way no_rights corner White Bishop 9 0 ≡ false) × (is_quiet_way no_rights corner White Bishop 18 0 ≡ false)
unfolding corner fixed fixed_squares squares_that kind_attacks distance king_distance on_the_way toward walls
corner-shut = (refl, refl)

-- but a loose pawn shuts nobody in
corner-open : is_quiet_way no_rights (fixed White Bishop 0 ∷ roaming White Pawn ∷ []) White Bishop 18 0 ≡ true
unfolding fixed roaming fixed_squares squares_that kind_attacks distance king_distance on_the_way toward walls guarded_squares kings_of
corner-open = refl

-- a pawn on its own rank has no quiet way there, and one beyond it has one from behind
pawn-ways : (is_quiet_way no_rights corner White Pawn 1 9 ≡ false) × (is_quiet_way no_rights corner White Pawn 17 25 ≡ true)
unfolding corner fixed fixed_squares squares_that guarded_squares kings_of
pawn-ways = (refl, refl)

-- after a castling beside a fixed queen on d1 and pawns the rook on f1 may have come from the king's home, and from nowhere else; so
-- neither is stuck
castled : Sketch
castled = fixed White Queen 3 ∷ fixed White Rook 5 ∷ fixed White King 6 ∷ fixed White Pawn 13 ∷ fixed White Pawn 14 ∷ fixed White Pawn 15 ∷ []

castled-rook : filter (λ e. is_quiet_way no_rights castled White Rook e 5) (range_with_len 0 64) ≡ 4 ∷ []
unfolding castled fixed fixed_squares squares_that kind_attacks distance king_distance on_the_way toward walls guarded_squares kings_of touches
castled-rook = refl

-- a king doesn't come to a square that a fixed pawn attacks, nor from one next to the other king
king-ways : (is_quiet_way no_rights (fixed White King 20 ∷ fixed Black Pawn 29 ∷ []) White King 12 20 ≡ false) × (is_quiet_way no_rights (fixed White King 20 ∷ fixed Black King 2 ∷ []) White King 11 20 ≡ false)
unfolding fixed fixed_squares squares_that kind_attacks distance king_distance on_the_way toward walls touched_squares guarded_squares kings_of touches
king-ways = (refl, refl)

-- no pawn comes from d3, where he would check the king fixed on c4, but from d2 by a double step he does, over a square where nobody is fixed
guards : (is_quiet_way no_rights (fixed Black King 26 ∷ roaming White Pawn ∷ []) White Pawn 19 27 ≡ false) × (is_quiet_way no_rights (fixed Black King 26 ∷ roaming White Pawn ∷ []) White Pawn 11 27 ≡ true) × (is_quiet_way no_rights (fixed Black King 26 ∷ fixed White Rook 19 ∷ []) White Pawn 11 27 ≡ false)
unfolding fixed roaming fixed_squares squares_that kind_attacks distance king_distance on_the_way toward guarded_squares kings_of touches
guards = (refl, refl, refl)

-- nor a queen from where she would touch him
guard-queen : is_quiet_way no_rights (fixed Black King 26 ∷ []) White Queen 19 3 ≡ false
unfolding fixed fixed_squares squares_that kind_attacks distance king_distance on_the_way toward walls guarded_squares kings_of touches
guard-queen = refl

-- STEPS

-- the pawn on c3 may have taken a knight there from b2, but no king, and may not have come from c2 so
takes_knight : Step
takes_knight = record { by = 0; from = 9; to = 18; taken = Some Knight; passing = false; place = 0 }

capture-steps : (is_step [] (fixed White Pawn 18 ∷ []) takes_knight ≡ true) × (is_step [] (fixed White Pawn 18 ∷ []) (record takes_knight { taken = Some King }) ≡ false) × (is_step [] (fixed White Pawn 18 ∷ []) (record takes_knight { from = 10; taken = None }) ≡ false)
unfolding takes_knight fixed fixed_squares squares_that is_step distance
capture-steps = (refl, refl, refl)

-- before it the knight is a figure on c3 and the pawn on b2, and a knight who may have stood on a1 and c3 has only been on a1
knight-back : map squares_in (taken_back (fixed White Pawn 18 ∷ record (fixed Black Knight 0) { squares = squares_that (is_spot (0 ∷ 18 ∷ [])) } ∷ []) takes_knight) ≡ (18 ∷ []) ∷ (9 ∷ []) ∷ (0 ∷ []) ∷ []
unfolding squares_in takes_knight fixed squares_that taken_back distance
knight-back = refl

-- on an exact file he has come from c2 by a step
advance-steps : is_step (false ∷ false ∷ true ∷ []) (fixed White Pawn 18 ∷ []) (record { by = 0; from = 10; to = 18; taken = None; passing = false; place = 0 }) ≡ true
unfolding fixed fixed_squares squares_that is_step distance
advance-steps = refl

-- the pawn on d6 may have come from e5 en passant, and no pawn to d5 so
passes_d5 : Step
passes_d5 = record { by = 0; from = 36; to = 43; taken = None; passing = true; place = 0 }

passing-steps : (is_step [] (fixed White Pawn 43 ∷ []) passes_d5 ≡ true) × (is_step [] (fixed White Pawn 35 ∷ []) (record passes_d5 { from = 28; to = 35 }) ≡ false)
unfolding passes_d5 fixed fixed_squares squares_that is_step distance
passing-steps = (refl, refl)

-- before the double step the pawn whom he took stood on d7, and nobody else on d7, d6 or d5
passing-back : map squares_in (taken_back (fixed White Pawn 43 ∷ record (fixed Black Rook 0) { squares = squares_that (is_spot (35 ∷ 42 ∷ 51 ∷ [])) } ∷ []) passes_d5) ≡ (51 ∷ []) ∷ (36 ∷ []) ∷ (42 ∷ []) ∷ []
unfolding squares_in passes_d5 fixed squares_that taken_back distance
passing-back = refl

-- a queen on b8 may have been a pawn on b7, and is one again when that is taken back
promotes : Step
promotes = record { by = 0; from = 49; to = 57; taken = None; passing = false; place = 0 }

promotion-step : (is_step [] (fixed White Queen 57 ∷ []) promotes ≡ true) × (map (λ f. f.kinds) (taken_back (fixed White Queen 57 ∷ []) promotes) ≡ (Pawn ∷ []) ∷ [])
unfolding promotes fixed fixed_squares squares_that is_step taken_back distance
promotion-step = (refl, refl)

-- before a promotion on e8 from d7 the pawn would have checked the king fixed on c8, with White to move
checking-step : side_checks (taken_back (fixed White Queen 60 ∷ fixed Black King 58 ∷ []) (record { by = 0; from = 51; to = 60; taken = Some Rook; passing = false; place = 0 })) (Some (fixed White Queen 60)) ≡ true
unfolding fixed fixed_squares squares_that kind_attacks distance king_distance on_the_way toward touched_squares kings_of touches taken_back gives_check
checking-step = refl

-- ONE MOMENT

-- trimmed, the knight isn't where the pawn is fixed, and each of two pawns leaves room for the other
on_a : ℕ → Figure
on_a n = record { colour = White; kinds = Pawn ∷ []; squares = squares_that (is_spot (8 ∷ 16 ∷ 24 ∷ [])); marked = false; place = n }

trimmed-squares : (map (λ f. is_in f.squares 9) (trimmed (roaming White Knight ∷ fixed White Pawn 9 ∷ [])) ≡ false ∷ true ∷ []) × (map squares_in (trimmed (on_a 0 ∷ on_a 1 ∷ [])) ≡ (8 ∷ 16 ∷ []) ∷ (16 ∷ 24 ∷ []) ∷ [])
unfolding squares_in roaming fixed on_a trimmed fixed_squares squares_that
trimmed-squares = (refl, refl)

-- two men on one square clash
clashing : (is_clash (fixed White Knight 9 ∷ fixed Black Rook 9 ∷ []) ≡ true) × (is_clash (fixed White Knight 9 ∷ fixed Black Rook 10 ∷ []) ≡ false)
unfolding fixed squares_that is_clash
clashing = (refl, refl)

-- and two men are too many where all but the king are left out
crowding : (is_crowded (replicate 4 true ++ false ∷ replicate 59 true) (fixed White King 4 ∷ []) White ≡ false) × (is_crowded (replicate 4 true ++ false ∷ replicate 59 true) (fixed White King 4 ∷ fixed White Rook 0 ∷ []) White ≡ true)
unfolding fixed squares_that is_crowded array_of initial_array
crowding = (refl, refl)

-- what more is known of one figure leaves the other as he was
known : (map (λ f. f.kinds) (known_at 1 Rook (fixed White King 4 ∷ record (fixed White Queen 9) { kinds = Knight ∷ Rook ∷ Queen ∷ [] } ∷ [])) ≡ (King ∷ []) ∷ (Rook ∷ []) ∷ []) × (map (λ f. f.marked) (marked_at 0 (fixed White Pawn 9 ∷ fixed White Pawn 10 ∷ [])) ≡ true ∷ false ∷ [])
unfolding fixed known_at marked_at
known = (refl, refl)

-- White's king and Black's, in another order and wider, with the pawn left out
kings_and_pawn : Sketch
kings_and_pawn = fixed White King 4 ∷ fixed White Pawn 9 ∷ fixed Black King 60 ∷ []

kings_alone : Sketch
kings_alone = roaming Black King ∷ roaming White King ∷ []

number_from : ℕ → ℕ
number_from zero = 2
number_from (suc j) = 0

rearranged : IsRearranged kings_and_pawn kings_alone
unfolding kings_and_pawn kings_alone number_from fixed roaming
rearranged = record { from = number_from; wider = wider; apart = apart; kings = kings; places = λ i j s t f g f' g' e1 e2 e3 e4 pawn. absurd (no_pawn i f e1 pawn) }
  where
    wider : (j : ℕ) (g : Figure) → figure_at kings_alone j ≡ Some g → (f : Figure) × (figure_at kings_and_pawn (number_from j) ≡ Some f) × IsWider f g
    wider zero g e = (fixed Black King 60, refl, subst (IsWider (fixed Black King 60)) (same_Some _ _ e) (fixed-anywhere Black King 60 0 0))
    wider (suc zero) g e = (fixed White King 4, refl, subst (IsWider (fixed White King 4)) (same_Some _ _ e) (fixed-anywhere White King 4 0 0))
    wider (suc (suc j)) g e = cc

    apart : (i j : ℕ) (f g : Figure) → figure_at kings_alone i ≡ Some f → figure_at kings_alone j ≡ Some g → number_from i ≡ number_from j → i ≡ j
    apart zero zero f g e1 e2 same = refl
    apart zero (suc j) f g e1 e2 same = absurd (omega (arith, same))
    apart (suc i) zero f g e1 e2 same = absurd (omega (arith, same))
    apart (suc zero) (suc zero) f g e1 e2 same = refl
    apart (suc (suc i)) (suc j) f g e1 e2 same = cc
    apart (suc zero) (suc (suc j)) f g e1 e2 same = cc

    kings : (i : ℕ) (f : Figure) → figure_at kings_and_pawn i ≡ Some f → may_be f King ≡ true → (j : ℕ) × (g : Figure) × (figure_at kings_alone j ≡ Some g) × (number_from j ≡ i)
    kings zero f e king = (1, roaming White King, refl, refl)
    kings (suc zero) f e king = absurd (both_ways _ (subst (λ (g : Figure). may_be g King ≡ false) (same_Some _ _ e) refl) king)
    kings (suc (suc zero)) f e king = (0, roaming Black King, refl, refl)
    kings (suc (suc (suc i))) f e king = cc

    no_pawn : (i : ℕ) (f : Figure) → figure_at kings_and_pawn (number_from i) ≡ Some f → may_be f Pawn ≡ true → ⊥
    no_pawn zero f e pawn = both_ways _ (subst (λ (g : Figure). may_be g Pawn ≡ false) (same_Some _ _ e) refl) pawn
    no_pawn (suc i) f e pawn = both_ways _ (subst (λ (g : Figure). may_be g Pawn ≡ false) (same_Some _ _ e) refl) pawn

-- three rooks want more than two homes
three-rooks : (may_be_array no_odds (roaming White Rook ∷ roaming White Rook ∷ []) ≡ true) × (may_be_array no_odds (roaming White Rook ∷ roaming White Rook ∷ roaming White Rook ∷ []) ≡ false)
unfolding roaming may_be_array squares_that array_of initial_array
three-rooks = (refl, refl)

-- GAMES

-- With kings anywhere, no game comes to a bishop on a1 behind a pawn on b2: the bishop had no way in, the pawn never moved, and the bishop
-- didn't begin there.
cornered : List Drawn
cornered =
    record { colour = White; kind = Bishop; spots = Some (0 ∷ []); place = 0 } ∷
    record { colour = White; kind = Pawn; spots = Some (9 ∷ []); place = 0 } ∷
    record { colour = White; kind = King; spots = None; place = 0 } ∷
    record { colour = Black; kind = King; spots = None; place = 0 } ∷ []

cornered-never : (p : List Move) → FitsGame no_odds p no_rights (drawn cornered) → ⊥
unfolding cornered fixed_squares squares_that kind_attacks distance king_distance on_the_way toward walls may_be_array array_of initial_array
cornered-never = stuck-never (squares_that (is_spot (0 ∷ 9 ∷ []))) cornered refl refl refl refl

-- White's king on g1 or h1 behind a bishop on f1 and pawns on e2 to h2 can't have passed them: he has only been on g1 and h1.
abbrev pub past_pawns : List Drawn
past_pawns =
    record { colour = White; kind = Bishop; spots = Some (5 ∷ []); place = 0 } ∷
    record { colour = White; kind = King; spots = Some (6 ∷ 7 ∷ []); place = 0 } ∷
    record { colour = White; kind = Pawn; spots = Some (12 ∷ []); place = 1 } ∷
    record { colour = White; kind = Pawn; spots = Some (13 ∷ []); place = 1 } ∷
    record { colour = White; kind = Pawn; spots = Some (14 ∷ []); place = 1 } ∷
    record { colour = White; kind = Pawn; spots = Some (15 ∷ []); place = 1 } ∷
    record { colour = Black; kind = King; spots = None; place = 7 } ∷ []

past_pawns-never : (p : List Move) → FitsGame no_odds p no_rights (drawn past_pawns) → ⊥
unfolding fixed_squares squares_that kind_attacks distance king_distance on_the_way toward walls may_be_array array_of initial_array
past_pawns-never = stuck-never (squares_that (is_spot (5 ∷ 12 ∷ 13 ∷ 14 ∷ 15 ∷ []))) past_pawns refl refl refl refl
