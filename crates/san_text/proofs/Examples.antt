-- What texts say.
use Rattle.std.proofs.Common.{◌≡◌, [], ◌∷◌, refl, true, false}
use Rattle.std.specs.Prelude.{Some, None}
use Rattle.board_base.specs.declared.men.Kind.TheVariants.{Knight, Rook, Queen}
use Rattle.san_text.specs.Words.{rest_of}
use Rattle.san_text.specs.Grammar.{san_of, piece_of, piece_goes, pawn_goes}
use Rattle.san_text.specs.declared.grammar.San.TheVariants.{Short, Long}

-- Nbd2 is a knight's move from file b to d2
Nbd2 : san_of (78 ∷ 98 ∷ 100 ∷ 50 ∷ []) ≡ Some (piece_goes Knight (Some 1) None false 11)
unfolding san_of piece_of
Nbd2 = refl

-- Nd2 tells nothing of the origin
Nd2 : san_of (78 ∷ 100 ∷ 50 ∷ []) ≡ Some (piece_goes Knight None None false 11)
unfolding san_of piece_of
Nd2 = refl

-- R1xd2+ is a rook's capture from rank 1, and Qa1xd2# a queen's from a1
R1xd2 : san_of (82 ∷ 49 ∷ 120 ∷ 100 ∷ 50 ∷ 43 ∷ []) ≡ Some (piece_goes Rook None (Some 0) true 11)
unfolding san_of piece_of
R1xd2 = refl

Qa1xd2 : san_of (81 ∷ 97 ∷ 49 ∷ 120 ∷ 100 ∷ 50 ∷ 35 ∷ []) ≡ Some (piece_goes Queen (Some 0) (Some 0) true 11)
unfolding san_of piece_of
Qa1xd2 = refl

-- exd8=Q# is a pawn's capture and promotion, and bxd2 a pawn's, not a bishop's
exd8 : san_of (101 ∷ 120 ∷ 100 ∷ 56 ∷ 61 ∷ 81 ∷ 35 ∷ []) ≡ Some (pawn_goes (Some 4) 59 (Some Queen))
unfolding san_of
exd8 = refl

bxd2 : san_of (98 ∷ 120 ∷ 100 ∷ 50 ∷ []) ≡ Some (pawn_goes (Some 1) 11 None)
unfolding san_of
bxd2 = refl

-- O-O+ and O-O-O are castlings, and O-O-O-O and 0-0 are no texts
castles_short : san_of (79 ∷ 45 ∷ 79 ∷ 43 ∷ []) ≡ Some Short
unfolding san_of
castles_short = refl

castles_long : san_of (79 ∷ 45 ∷ 79 ∷ 45 ∷ 79 ∷ []) ≡ Some Long
unfolding san_of
castles_long = refl

castles_twice : san_of (79 ∷ 45 ∷ 79 ∷ 45 ∷ 79 ∷ 45 ∷ 79 ∷ []) ≡ None
unfolding san_of
castles_twice = refl

noughts : san_of (48 ∷ 45 ∷ 48 ∷ []) ≡ None
unfolding san_of
noughts = refl

-- nf3, Nf3++, e8Q, e8=K, ed4 and Ne2e4=Q are no texts
small_letter : san_of (110 ∷ 102 ∷ 51 ∷ []) ≡ None
unfolding san_of
small_letter = refl

two_signs : san_of (78 ∷ 102 ∷ 51 ∷ 43 ∷ 43 ∷ []) ≡ None
unfolding san_of piece_of
two_signs = refl

no_equals : san_of (101 ∷ 56 ∷ 81 ∷ []) ≡ None
unfolding san_of
no_equals = refl

to_a_king : san_of (101 ∷ 56 ∷ 61 ∷ 75 ∷ []) ≡ None
unfolding san_of
to_a_king = refl

no_takes : san_of (101 ∷ 100 ∷ 52 ∷ []) ≡ None
unfolding san_of
no_takes = refl

promoted_piece : san_of (78 ∷ 101 ∷ 50 ∷ 101 ∷ 52 ∷ 61 ∷ 81 ∷ []) ≡ None
unfolding san_of piece_of
promoted_piece = refl

-- after 12... nothing is left, after 1.e4 the move, and 1..e4 leaves .e4, which is no move's text
number_alone : rest_of (49 ∷ 50 ∷ 46 ∷ 46 ∷ 46 ∷ []) ≡ Some []
number_alone = refl

numbered : rest_of (49 ∷ 46 ∷ 101 ∷ 52 ∷ []) ≡ Some (101 ∷ 52 ∷ [])
numbered = refl

two_dots : rest_of (49 ∷ 46 ∷ 46 ∷ 101 ∷ 52 ∷ []) ≡ Some (46 ∷ 101 ∷ 52 ∷ [])
two_dots = refl

no_dot : rest_of (49 ∷ 101 ∷ 52 ∷ []) ≡ None
no_dot = refl
