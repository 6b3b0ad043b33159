-- Captures en passant on boards that are written out.
use Rattle.std.proofs.Common.{◌≡◌, true, false, ◌++◌, ◌∷◌, replicate, refl}
use Rattle.std.specs.Prelude.{None}
use Rattle.board_base.specs.Board.{Places, man}
use Rattle.board_base.specs.Attacks.{distance, king_distance, on_the_way, toward, kind_attacks, attacks_from, attacks}
use Rattle.board_base.specs.Play.{play}
use Rattle.board_base.specs.Legal.{in_check}
use Rattle.board_base.specs.declared.men.Colour.TheVariants.{White, Black}
use Rattle.board_base.specs.declared.men.Kind.TheVariants.{Pawn, Bishop, Rook, King}
use Rattle.board_base.specs.declared.moves.Move.{Move}
use Rattle.ep_history.specs.Fits.{ep_fits}

abbrev e5d6 : Move
e5d6 = record { from = 36; to = 43; promo = None }

-- White's king on c5, pawns on d5 and e5
abbrev king_beside : Places
king_beside = replicate 34 None ++ man White King ∷ man Black Pawn ∷ man White Pawn ∷ replicate 27 None

king_on_c5 : ep_fits king_beside White e5d6 ≡ true
unfolding ep_fits in_check attacks attacks_from kind_attacks play distance king_distance on_the_way toward
king_on_c5 = refl

-- the capture isn't Black's
not_blacks : ep_fits king_beside Black e5d6 ≡ false
unfolding ep_fits
not_blacks = refl

-- the rook on h5 attacks the king on a5 once both pawns have left the rank
abbrev on_one_rank : Places
on_one_rank = replicate 32 None ++ man White King ∷ None ∷ None ∷ man Black Pawn ∷ man White Pawn ∷ None ∷ None ∷ man Black Rook ∷ replicate 24 None

both_leave : ep_fits on_one_rank White e5d6 ≡ false
unfolding ep_fits in_check attacks attacks_from kind_attacks play distance king_distance on_the_way toward
both_leave = refl

-- the rook on e8 attacks the king on e1 once the capturing pawn has left the file
abbrev on_one_file : Places
on_one_file = replicate 4 None ++ man White King ∷ replicate 30 None ++ man Black Pawn ∷ man White Pawn ∷ replicate 23 None ++ man Black Rook ∷ replicate 3 None

capturer_leaves : ep_fits on_one_file White e5d6 ≡ false
unfolding ep_fits in_check attacks attacks_from kind_attacks play distance king_distance on_the_way toward
capturer_leaves = refl

-- the bishop on a8 attacks the king on h1 once the captured pawn has left the diagonal
abbrev on_one_diagonal : Places
on_one_diagonal = replicate 7 None ++ man White King ∷ replicate 27 None ++ man Black Pawn ∷ man White Pawn ∷ replicate 19 None ++ man Black Bishop ∷ replicate 7 None

captured_leaves : ep_fits on_one_diagonal White e5d6 ≡ false
unfolding ep_fits in_check attacks attacks_from kind_attacks play distance king_distance on_the_way toward
captured_leaves = refl

-- the pawn on d5, which attacks the king on e4, is captured
abbrev king_attacked : Places
king_attacked = replicate 28 None ++ man White King ∷ replicate 6 None ++ man Black Pawn ∷ man White Pawn ∷ replicate 27 None

attacker_captured : ep_fits king_attacked White e5d6 ≡ true
unfolding ep_fits in_check attacks attacks_from kind_attacks play distance king_distance on_the_way toward
attacker_captured = refl

-- a man on d7, where the double step would have begun
abbrev origin_taken : Places
origin_taken = replicate 34 None ++ man White King ∷ man Black Pawn ∷ man White Pawn ∷ replicate 14 None ++ man Black Rook ∷ replicate 12 None

none_from_d7 : ep_fits origin_taken White e5d6 ≡ false
unfolding ep_fits distance
none_from_d7 = refl
