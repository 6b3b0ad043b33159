-- What the definitions give on games and ways that are written out.
use Rattle.std.proofs.Common.{◌≡◌, ℕ, true, false, List, [], ◌∷◌, refl}
use Rattle.std.specs.Prelude.{None, Some}
use Rattle.board_base.specs.Board.{array_of, initial_array, no_odds}
use Rattle.board_base.specs.Attacks.{distance, on_the_way, toward}
use Rattle.board_base.specs.Play.{play}
use Rattle.board_base.specs.Squares.{squares_of}
use Rattle.board_base.specs.declared.men.Colour.TheVariants.{White, Black}
use Rattle.board_base.specs.declared.men.Kind.TheVariants.{Knight, Pawn}
use Rattle.board_base.specs.declared.moves.Move.{Move}
use Rattle.men_account.specs.Labels.{first_labels, relabelled}
use Rattle.cage_rules.specs.Regions.{is_exposed}
use Rattle.men_fates.specs.Deeds.{strikes, struck_by, way_of}
use Rattle.men_fates.specs.Fates.{brings, may_fall}
use Rattle.men_fates.specs.Ways.{captures_on, fee, is_way, toll}

abbrev go : ℕ → ℕ → Move
go from to = record { from = from; to = to; promo = None }

-- e2e4 d7d5 e4d5 e7e5 d5e6, the last en passant
abbrev past : List Move
past = go 12 28 ∷ go 51 35 ∷ go 28 35 ∷ go 52 36 ∷ go 35 44 ∷ []

-- the pawn of e2 went over e3 and e4, and took on d5 and e6
past_white : way_of no_odds past 12 ≡ 20 ∷ 28 ∷ 35 ∷ 44 ∷ []
unfolding initial_array array_of first_labels play relabelled on_the_way toward distance
past_white = refl

past_strikes : strikes no_odds past White ≡ record { by = 12; of = 51; on = 35 } ∷ record { by = 12; of = 52; on = 44 } ∷ []
unfolding initial_array array_of first_labels play relabelled
past_strikes = refl

past_captures : captures_on 12 (20 ∷ 28 ∷ 35 ∷ 44 ∷ []) ≡ 35 ∷ 44 ∷ []
past_captures = refl

-- the pawn of e7 went over e6, where he was taken, to e5
past_black : way_of no_odds past 52 ≡ 44 ∷ 36 ∷ []
unfolding initial_array array_of first_labels play relabelled on_the_way toward distance
past_black = refl

past_black_took : strikes no_odds past Black ≡ []
unfolding initial_array array_of first_labels play relabelled
past_black_took = refl

-- a2a4 b7b5 a4b5 a7a6 b5b6 a6a5 b6b7 a5a4 b7a8n b8c6 a8c7: a promoted man's way ends where he was promoted, and his captures as a knight are none of a pawn's
abbrev promoting : List Move
promoting = go 8 24 ∷ go 49 33 ∷ go 24 33 ∷ go 48 40 ∷ go 33 41 ∷ go 40 32 ∷ go 41 49 ∷ go 32 24 ∷ record { from = 49; to = 56; promo = Some Knight } ∷ go 57 42 ∷ go 56 50 ∷ []

promoting_way : way_of no_odds promoting 8 ≡ 16 ∷ 24 ∷ 33 ∷ 41 ∷ 49 ∷ 56 ∷ []
unfolding initial_array array_of first_labels play relabelled on_the_way toward distance
promoting_way = refl

promoting_strikes : struck_by 8 (strikes no_odds promoting White) ≡ 33 ∷ 56 ∷ []
unfolding initial_array array_of first_labels play relabelled
promoting_strikes = refl

-- with a price of 5 for each capture, and gates of 1, a way with two captures costs 10, and a straight one as many gates as it has squares
captures_cost : toll (λ s. 5) (λ s. 1) 12 (20 ∷ 28 ∷ 35 ∷ 44 ∷ []) ≡ 10
captures_cost = refl

gates_cost : toll (λ s. 5) (λ s. 1) 52 (44 ∷ 36 ∷ []) ≡ 3
gates_cost = refl

no_fee : fee (λ s. 5) 52 (44 ∷ 36 ∷ []) ≡ 0
no_fee = refl

-- no way leads over a square of the set, to the side by two files, or back
over_nobody : is_way White (squares_of 0) 12 (20 ∷ 28 ∷ 35 ∷ []) ≡ true
unfolding squares_of distance
over_nobody = refl

over_e3 : is_way White (squares_of 1048576) 12 (20 ∷ 28 ∷ 35 ∷ []) ≡ false
unfolding squares_of distance
over_e3 = refl

aside : is_way White (squares_of 0) 12 (22 ∷ []) ≡ false
unfolding squares_of distance
aside = refl

back : is_way White (squares_of 0) 12 (20 ∷ 12 ∷ []) ≡ false
unfolding squares_of distance
back = refl

-- from h to a the files don't join: a3 is no step from h2
round_the_board : is_way White (squares_of 0) 15 (16 ∷ []) ≡ false
unfolding squares_of distance
round_the_board = refl

-- a white man may fall to a pawn on e4 and on a6, but not on a7 or a8, where no pawn comes from beyond, nor on e4 where d5 and f5 are frozen
falls_on_e4 : may_fall (squares_of 0) White 28 ≡ true
unfolding squares_of is_exposed distance
falls_on_e4 = refl

falls_on_a6 : may_fall (squares_of 0) White 40 ≡ true
unfolding squares_of is_exposed distance
falls_on_a6 = refl

safe_on_a7 : may_fall (squares_of 0) White 48 ≡ false
unfolding squares_of is_exposed distance
safe_on_a7 = refl

safe_on_a8 : may_fall (squares_of 0) White 56 ≡ false
unfolding squares_of is_exposed distance
safe_on_a8 = refl

safe_on_e4 : may_fall (squares_of 171798691840) White 28 ≡ false
unfolding squares_of is_exposed distance
safe_on_e4 = refl

-- a pawn's way ends where he stands, and it brings no pawn to the last rank
pawn_on_e6 : brings (squares_of 0) White 12 (20 ∷ 28 ∷ 35 ∷ 44 ∷ []) Pawn 44 ≡ true
pawn_on_e6 = refl

no_pawn_on_d5 : brings (squares_of 0) White 12 (20 ∷ 28 ∷ 35 ∷ 44 ∷ []) Pawn 35 ≡ false
no_pawn_on_d5 = refl

no_knight_from_e6 : brings (squares_of 0) White 12 (20 ∷ 28 ∷ 35 ∷ 44 ∷ []) Knight 44 ≡ false
no_knight_from_e6 = refl

no_pawn_on_a8 : brings (squares_of 0) White 8 (16 ∷ 24 ∷ 33 ∷ 41 ∷ 49 ∷ 56 ∷ []) Pawn 56 ≡ false
no_pawn_on_a8 = refl
