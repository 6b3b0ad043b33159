-- What the definitions on pawns' captures, files and homes give on games and boards that are written out.
use Rattle.std.proofs.Common.{◌≡◌, ℕ, ◌==◌, Bool, true, false, not, List, [], ◌∷◌, length, get_or, set, refl, ap, sym, ◌∙◌, subst, ◌<◌, arith}
use lib.Signed.{le_z, le_z_yes}
use Rattle.std.specs.Prelude.{Some, None, T, ℤ, pos, negsuc, ◌+ℤ◌, ◌≤ℤ◌}
use Rattle.std.proofs.lemmas.Bool.{both_ways}
use Rattle.std.proofs.lemmas.Int.{ints}
use Rattle.std.proofs.lemmas.List.Elements.{All-from_get_or}
use Rattle.std.specs.List.{list_all, range_with_len}
use Rattle.general_lemmas.proofs.Ranges.{all_in_range}
use Rattle.board_base.specs.Board.{Places, array_of, initial_array, no_odds, man}
use Rattle.board_base.specs.Attacks.{distance}
use Rattle.board_base.specs.Play.{play}
use Rattle.board_base.specs.Game.{IsGame, board_after}
use Rattle.board_base.specs.declared.men.Colour.TheVariants.{White, Black}
use Rattle.board_base.specs.declared.men.Kind.TheVariants.{Pawn, Bishop, Knight}
use Rattle.board_base.specs.declared.moves.Move.{Move}
use Rattle.men_account.specs.Account.{men, is_any, counts_of, excess_of, allowance_of}
use Rattle.men_account.specs.Labels.{labels_after, first_labels, relabelled}
use Rattle.men_account.specs.Captures.{captured_by_pawns, all_files_left}
use Rattle.men_account.specs.Homes.{men_of}
use Rattle.assignment.specs.Assignments.{IsBounded, assignment_cost, total}
use Rattle.assignment.specs.Tables.{cost_at}
use Rattle.pawn_assign.specs.PawnCosts.{pawn_cost, pawn_costs, pawn_squares}
use Rattle.men_account.proofs.FirstMen.{sixteen}
use Rattle.men_account.proofs.Paired.{bound-missing}

abbrev go : ℕ → ℕ → Move
go from to = record { from = from; to = to; promo = None }

-- after e2e4 d7d5 e4d5 d8d5 White's pawns took the pawn of d7, and Black's nobody: it was the queen who took
abbrev centre : List Move
centre = go 12 28 ∷ go 51 35 ∷ go 28 35 ∷ go 59 35 ∷ []

centre_white : captured_by_pawns no_odds centre White ≡ 51 ∷ []
unfolding initial_array array_of first_labels play relabelled
centre_white = refl

centre_black : captured_by_pawns no_odds centre Black ≡ []
unfolding initial_array array_of first_labels play relabelled
centre_black = refl

-- before the queen takes, White's pawn of e2 has left his file by one
centre_files : all_files_left White (board_after no_odds (go 12 28 ∷ go 51 35 ∷ go 28 35 ∷ [])) (labels_after no_odds (go 12 28 ∷ go 51 35 ∷ go 28 35 ∷ [])) ≡ 1
unfolding initial_array array_of first_labels play relabelled all_files_left distance
centre_files = refl

-- after e2e4 a7a6 e4e5 d7d5 e5d6, en passant, it is the pawn of d7, who stood on d5
past : captured_by_pawns no_odds (go 12 28 ∷ go 48 40 ∷ go 28 36 ∷ go 51 35 ∷ go 36 43 ∷ []) White ≡ 51 ∷ []
unfolding initial_array array_of first_labels play relabelled
past = refl

-- after a2a4 b7b5 a4b5 a7a6 b5b6 a6a5 b6b7 a5a4 b7a8n the pawn of a2 took the pawn of b7, and the rook of a8 as he was promoted
promoting : captured_by_pawns no_odds (go 8 24 ∷ go 49 33 ∷ go 24 33 ∷ go 48 40 ∷ go 33 41 ∷ go 40 32 ∷ go 41 49 ∷ go 32 24 ∷ record { from = 49; to = 56; promo = Some Knight } ∷ []) White ≡ 49 ∷ 56 ∷ []
unfolding initial_array array_of first_labels play relabelled
promoting = refl

-- The array with the bishop of c1 on f4: where nobody on the board began on c1, he must have been a pawn, and is one too many.
bishop_out : excess_of (counts_of White (set (set initial_array 2 None) 29 (man White Bishop))) (allowance_of White (λ s. not (s == 2)) (array_of no_odds)) ≡ 9
unfolding initial_array array_of men
bishop_out = refl

-- the array with a pawn on b3 and none on a2
abbrev pub doubled : Places
doubled = set (set initial_array 8 None) 17 (man White Pawn)

doubled_pawns : pawn_squares White doubled ≡ 9 ∷ 10 ∷ 11 ∷ 12 ∷ 13 ∷ 14 ∷ 15 ∷ 17 ∷ []
unfolding initial_array pawn_squares
doubled_pawns = refl

-- the way to give them files that costs least: the pawn on b3 comes from a
doubled_cost : assignment_cost (pawn_costs no_odds White doubled) (1 ∷ 2 ∷ 3 ∷ 4 ∷ 5 ∷ 6 ∷ 7 ∷ 0 ∷ []) ≡ 1
unfolding initial_array pawn_squares pawn_cost distance
doubled_cost = refl

-- potentials that show it: 1 for the pawn of b2 and for the pawn on b3, and -1 for file b
abbrev u : List ℤ
u = pos 1 ∷ pos 0 ∷ pos 0 ∷ pos 0 ∷ pos 0 ∷ pos 0 ∷ pos 0 ∷ pos 1 ∷ []

abbrev v : List ℤ
v = pos 0 ∷ negsuc 0 ∷ pos 0 ∷ pos 0 ∷ pos 0 ∷ pos 0 ∷ pos 0 ∷ pos 0 ∷ []

length-doubled : length u ≡ length (pawn_costs no_odds White doubled)
unfolding initial_array pawn_squares
length-doubled = refl

sixteen_left : men_of Black is_any doubled ≡ 16
unfolding initial_array men_of
sixteen_left = refl

none_gone : men_of Black (λ _. false) (array_of no_odds) ≡ 0
unfolding initial_array array_of men_of
none_gone = refl

fair_test : ℕ → ℕ → Bool
fair_test i j = le_z (get_or u i (pos 0) +ℤ get_or v j (pos 0)) (pos (cost_at (pawn_costs no_odds White doubled) i j))

all_fair : list_all (λ i. list_all (fair_test i) (range_with_len 0 8)) (range_with_len 0 8) ≡ true
unfolding fair_test initial_array pawn_squares pawn_cost distance
all_fair = refl

none_above : list_all (λ i. le_z (get_or v i (pos 0)) (pos 0)) (range_with_len 0 8) ≡ true
none_above = refl

bounded : IsBounded 8 (pawn_costs no_odds White doubled) u v
unfolding fair_test
bounded = record {
  rows = length-doubled;
  columns = refl;
  below = All-from_get_or (λ x. x ≤ℤ pos 0) v (pos 0) (λ i inside. le_z_yes (subst T (sym (all_in_range (λ i. le_z (get_or v i (pos 0)) (pos 0)) 0 8 i none_above (omega arith) (omega arith))) tt));
  pairs = λ i j few small.
      let n : i < 8 = omega (arith, length-doubled) in
      let row = all_in_range (λ i. list_all (fair_test i) (range_with_len 0 8)) 0 8 i all_fair (omega arith) (omega arith) in
      le_z_yes (subst T (sym (all_in_range (fair_test i) 0 8 j row (omega arith) (omega arith))) tt);
}

-- So no game leads there: a white pawn took a man, and no black man is missing.
no_game : (g : List Move) → IsGame no_odds g → board_after no_odds g ≡ doubled → ⊥
no_game g game leads =
    let most = bound-missing no_odds g White (λ _. false) u v game (subst (λ (b : Places). IsBounded 8 (pawn_costs no_odds White b) u v) (sym leads) bounded) (λ h own never. absurd (both_ways false refl never)) in
    let there : men_of Black is_any (board_after no_odds g) ≡ 16 = ap (men_of Black is_any) leads ∙ sixteen_left in
    let gone : men_of Black (λ _. false) (array_of no_odds) ≡ 0 = none_gone in
    let one : total u +ℤ total v ≡ pos 1 = refl in
    omega (arith, ints, most, there, sixteen Black, one)
