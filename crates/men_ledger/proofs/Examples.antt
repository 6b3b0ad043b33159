-- What the definitions of captures, ways, files and gates give on games that are written out.
use Rattle.std.proofs.Common.{◌≡◌, ℕ, ◌==◌, cond, List, [], ◌∷◌, refl}
use Rattle.std.specs.Prelude.{None}
use Rattle.board_base.specs.Board.{array_of, initial_array, no_odds}
use Rattle.board_base.specs.Attacks.{distance, on_the_way, toward}
use Rattle.board_base.specs.Play.{play}
use Rattle.board_base.specs.declared.men.Colour.TheVariants.{White, Black}
use Rattle.board_base.specs.declared.moves.Move.{Move}
use Rattle.men_account.specs.Labels.{first_labels, relabelled}
use Rattle.men_fates.specs.Deeds.{strikes}
use Rattle.men_ledger.specs.Files.{gates_passed, trodden}
use Rattle.men_ledger.specs.Ledger.{earned, paid}

abbrev go : ℕ → ℕ → Move
go from to = record { from = from; to = to; promo = None }

-- e2e4 a7a6 e4e5 d7d5 e5d6, en passant
abbrev past : List Move
past = go 12 28 ∷ go 48 40 ∷ go 28 36 ∷ go 51 35 ∷ go 36 43 ∷ []

-- White's pawn of e2 took the pawn of d7, and went to d6
past_strikes : strikes no_odds past White ≡ record { by = 12; of = 51; on = 43 } ∷ []
unfolding initial_array array_of first_labels play relabelled
past_strikes = refl

-- he paid the price of d6, which the pawn of d7 earned
past_paid : paid (λ s. s) (strikes no_odds past White) 12 ≡ 43
unfolding initial_array array_of first_labels play relabelled
past_paid = refl

past_earned : earned (λ s. s) (strikes no_odds past White) 51 ≡ 43
unfolding initial_array array_of first_labels play relabelled
past_earned = refl

-- he has left his file, the pawn of d7 was taken, and the pawn of a7 has trodden a7 and a6
past_left : trodden no_odds past White 12 ≡ []
unfolding initial_array array_of first_labels play relabelled distance on_the_way toward
past_left = refl

past_taken : trodden no_odds past Black 51 ≡ []
unfolding initial_array array_of first_labels play relabelled distance on_the_way toward
past_taken = refl

past_trodden : trodden no_odds past Black 48 ≡ 48 ∷ 40 ∷ []
unfolding initial_array array_of first_labels play relabelled distance on_the_way toward
past_trodden = refl

-- after e2e4 e7e5 the pawns of the file have trodden e2, e3 and e4, and e7, e6 and e5
facing_white : trodden no_odds (go 12 28 ∷ go 52 36 ∷ []) White 12 ≡ 12 ∷ 20 ∷ 28 ∷ []
unfolding initial_array array_of first_labels play relabelled distance on_the_way toward
facing_white = refl

facing_black : trodden no_odds (go 12 28 ∷ go 52 36 ∷ []) Black 52 ≡ 52 ∷ 44 ∷ 36 ∷ []
unfolding initial_array array_of first_labels play relabelled distance on_the_way toward
facing_black = refl

-- and so White's passes a gate of 5 on e3, and Black's none
facing_gate : gates_passed (λ s. cond (s == 20) 5 0) no_odds (go 12 28 ∷ go 52 36 ∷ []) White 12 ≡ 5
unfolding initial_array array_of first_labels play relabelled distance on_the_way toward
facing_gate = refl

facing_none : gates_passed (λ s. cond (s == 20) 5 0) no_odds (go 12 28 ∷ go 52 36 ∷ []) Black 52 ≡ 0
unfolding initial_array array_of first_labels play relabelled distance on_the_way toward
facing_none = refl
