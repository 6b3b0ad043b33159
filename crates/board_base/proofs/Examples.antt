-- What the definitions give on boards that are written out.
use Rattle.std.proofs.Common.{◌≡◌, ℕ, Bool, List, [], ◌∷◌, refl, true, false, map}
use Rattle.std.specs.Prelude.{Option, Some, None, slice_set}
use Rattle.std.specs.List.{range_with_len, count_by}
use Rattle.board_base.specs.Board.{Places, man, no_men, initial_array, array_of, no_odds}
use Rattle.board_base.specs.Squares.{squares_of}
use Rattle.board_base.specs.Attacks.{attacks, attacks_from, kind_attacks, distance, toward, on_the_way, king_distance}
use Rattle.board_base.specs.Play.{play}
use Rattle.board_base.specs.Legal.{legal_on, may_go, in_check, promotion_fits, man_moves, pawn_steps, pawn_doubles, pawn_captures, pawn_captures_en_passant, king_castles}
use Rattle.board_base.specs.Game.{legal_after}
use Rattle.board_base.specs.declared.men.Colour.{Colour}
use Rattle.board_base.specs.declared.men.Colour.TheVariants.{White, Black}
use Rattle.board_base.specs.declared.men.Kind.{Kind}
use Rattle.board_base.specs.declared.men.Kind.TheVariants.{Pawn, Knight, Bishop, Rook, Queen, King}
use Rattle.board_base.specs.declared.moves.Move.{Move}

-- the board with these men and no others
abbrev men : List (ℕ × (Colour × Kind)) → Places
men [] = no_men
men (x ∷ rest) = slice_set (men rest) x.0 (man x.1.0 x.1.1)

-- the move is legal with all rights and this last move
abbrev legal : Places → Colour → Option Move → Move → Bool
legal board c last m = legal_on board c (λ x. true) last m

abbrev a1 : ℕ
a1 = 0

abbrev c1 : ℕ
c1 = 2

abbrev d1 : ℕ
d1 = 3

abbrev e1 : ℕ
e1 = 4

abbrev f1 : ℕ
f1 = 5

abbrev g1 : ℕ
g1 = 6

abbrev h1 : ℕ
h1 = 7

abbrev e2 : ℕ
e2 = 12

abbrev g2 : ℕ
g2 = 14

abbrev a3 : ℕ
a3 = 16

abbrev c3 : ℕ
c3 = 18

abbrev e3 : ℕ
e3 = 20

abbrev a4 : ℕ
a4 = 24

abbrev c4 : ℕ
c4 = 26

abbrev d4 : ℕ
d4 = 27

abbrev e4 : ℕ
e4 = 28

abbrev a5 : ℕ
a5 = 32

abbrev c5 : ℕ
c5 = 34

abbrev d5 : ℕ
d5 = 35

abbrev e5 : ℕ
e5 = 36

abbrev h5 : ℕ
h5 = 39

abbrev d6 : ℕ
d6 = 43

abbrev b7 : ℕ
b7 = 49

abbrev d7 : ℕ
d7 = 51

abbrev a8 : ℕ
a8 = 56

abbrev b8 : ℕ
b8 = 57

abbrev c8 : ℕ
c8 = 58

abbrev d8 : ℕ
d8 = 59

abbrev e8 : ℕ
e8 = 60

abbrev f8 : ℕ
f8 = 61

abbrev g8 : ℕ
g8 = 62

abbrev h8 : ℕ
h8 = 63

-- on an empty board a pawn, a knight, a bishop, a rook, a queen and a king on d4 attack this many squares
attacked_from_d4 : map (λ kind. count_by (λ t. kind_attacks no_men White kind d4 t) (range_with_len 0 64)) (Pawn ∷ Knight ∷ Bishop ∷ Rook ∷ Queen ∷ King ∷ []) ≡ 2 ∷ 8 ∷ 13 ∷ 14 ∷ 27 ∷ 8 ∷ []
unfolding kind_attacks distance toward on_the_way king_distance
attacked_from_d4 = refl

-- a pawn attacks diagonally forward, and not straight ahead
pawn_on_d4 : map (kind_attacks no_men White Pawn d4) (c5 ∷ d5 ∷ e5 ∷ c3 ∷ []) ≡ true ∷ false ∷ true ∷ false ∷ []
unfolding kind_attacks distance
pawn_on_d4 = refl

-- a rook attacks the first man on its line, and nothing behind it
blocked_rook : map (attacks_from (men ((a1, (White, Rook)) ∷ (a4, (Black, Pawn)) ∷ [])) a1) (a3 ∷ a4 ∷ a5 ∷ []) ≡ true ∷ true ∷ false ∷ []
unfolding attacks_from kind_attacks distance toward on_the_way king_distance
blocked_rook = refl

-- in the array White attacks c3, and not c4
array_attacks : map (λ s. attacks initial_array s White) (c3 ∷ c4 ∷ []) ≡ true ∷ false ∷ []
unfolding initial_array attacks attacks_from kind_attacks distance toward on_the_way king_distance
array_attacks = refl

abbrev pinned_knight : Places
pinned_knight = men ((e1, (White, King)) ∷ (e2, (White, Knight)) ∷ (e8, (Black, Rook)) ∷ [])

-- a pinned man attacks
pinned_attacks : attacks pinned_knight d4 White ≡ true
unfolding initial_array attacks attacks_from kind_attacks distance toward on_the_way king_distance
pinned_attacks = refl

-- but it may not move there
pinned_stays : legal pinned_knight White None (record { from = e2; to = d4; promo = None }) ≡ false
unfolding initial_array array_of attacks attacks_from kind_attacks distance toward on_the_way king_distance play legal_on may_go in_check promotion_fits man_moves pawn_steps pawn_doubles pawn_captures pawn_captures_en_passant king_castles
pinned_stays = refl

abbrev ready_to_castle : Places
ready_to_castle = men ((e1, (White, King)) ∷ (a1, (White, Rook)) ∷ (h1, (White, Rook)) ∷ [])

-- the king castles, and the rook goes to the square that it crossed
castled_short : play ready_to_castle (record { from = e1; to = g1; promo = None }) ≡ (men ((g1, (White, King)) ∷ (a1, (White, Rook)) ∷ (f1, (White, Rook)) ∷ []))
unfolding play
castled_short = refl

-- the king castles to the other side
castled_long : play ready_to_castle (record { from = e1; to = c1; promo = None }) ≡ (men ((c1, (White, King)) ∷ (d1, (White, Rook)) ∷ (h1, (White, Rook)) ∷ []))
unfolding play
castled_long = refl

-- a pawn captured en passant is gone
captured_en_passant : play (men ((e5, (White, Pawn)) ∷ (d5, (Black, Pawn)) ∷ [])) (record { from = e5; to = d6; promo = None }) ≡ (men ((d6, (White, Pawn)) ∷ []))
unfolding play
captured_en_passant = refl

-- a pawn becomes a queen of its colour
promoted_pawn : play (men ((b7, (White, Pawn)) ∷ (a8, (Black, Rook)) ∷ [])) (record { from = b7; to = a8; promo = Some Queen }) ≡ (men ((a8, (White, Queen)) ∷ []))
unfolding play
promoted_pawn = refl

-- White begins by e2e4 if it likes, and never by e2e5
first_moves : map (legal_after no_odds []) ((record { from = e2; to = e4; promo = None }) ∷ (record { from = e2; to = e5; promo = None }) ∷ []) ≡ true ∷ false ∷ []
unfolding initial_array array_of attacks attacks_from kind_attacks distance toward on_the_way king_distance play legal_on may_go in_check promotion_fits man_moves pawn_steps pawn_doubles pawn_captures pawn_captures_en_passant king_castles
first_moves = refl

abbrev pawn_and_man_on : ℕ → Places
pawn_and_man_on s = men ((e2, (White, Pawn)) ∷ (s, (Black, Knight)) ∷ [])

-- a double step passes over no man, and ends on none
blocked_double_steps : map (λ s. legal (pawn_and_man_on s) White None (record { from = e2; to = e4; promo = None })) (e3 ∷ e4 ∷ e5 ∷ []) ≡ false ∷ false ∷ true ∷ []
unfolding initial_array array_of attacks attacks_from kind_attacks distance toward on_the_way king_distance play legal_on may_go in_check promotion_fits man_moves pawn_steps pawn_doubles pawn_captures pawn_captures_en_passant king_castles
blocked_double_steps = refl

abbrev castling_against_rook_on : ℕ → Places
castling_against_rook_on s = men ((e1, (White, King)) ∷ (a1, (White, Rook)) ∷ (h1, (White, Rook)) ∷ (s, (Black, Rook)) ∷ [])

-- no castling out of an attack, through one or into one
short_castling_attacked : map (λ s. legal (castling_against_rook_on s) White None (record { from = e1; to = g1; promo = None })) (e8 ∷ f8 ∷ g8 ∷ h8 ∷ []) ≡ false ∷ false ∷ false ∷ true ∷ []
unfolding initial_array array_of attacks attacks_from kind_attacks distance toward on_the_way king_distance play legal_on may_go in_check promotion_fits man_moves pawn_steps pawn_doubles pawn_captures pawn_captures_en_passant king_castles
short_castling_attacked = refl

-- in long castling b1 may be attacked, which the king does not touch
long_castling_attacked : map (λ s. legal (castling_against_rook_on s) White None (record { from = e1; to = c1; promo = None })) (b8 ∷ c8 ∷ d8 ∷ []) ≡ true ∷ false ∷ false ∷ []
unfolding initial_array array_of attacks attacks_from kind_attacks distance toward on_the_way king_distance play legal_on may_go in_check promotion_fits man_moves pawn_steps pawn_doubles pawn_captures pawn_captures_en_passant king_castles
long_castling_attacked = refl

-- a black king does not castle on White's squares
wrong_side_castling : legal (men ((e1, (Black, King)) ∷ (h1, (Black, Rook)) ∷ [])) Black None (record { from = e1; to = g1; promo = None }) ≡ false
unfolding initial_array array_of attacks attacks_from kind_attacks distance toward on_the_way king_distance play legal_on may_go in_check promotion_fits man_moves pawn_steps pawn_doubles pawn_captures pawn_captures_en_passant king_castles
wrong_side_castling = refl

abbrev side_by_side : Places
side_by_side = men ((e5, (White, Pawn)) ∷ (d5, (Black, Pawn)) ∷ [])

-- en passant is legal right after the double step, and not without it
en_passant_at_once : map (λ last. legal side_by_side White last (record { from = e5; to = d6; promo = None })) (Some (record { from = d7; to = d5; promo = None }) ∷ Some (record { from = d6; to = d5; promo = None }) ∷ None ∷ []) ≡ true ∷ false ∷ false ∷ []
unfolding initial_array array_of attacks attacks_from kind_attacks distance toward on_the_way king_distance play legal_on may_go in_check promotion_fits man_moves pawn_steps pawn_doubles pawn_captures pawn_captures_en_passant king_castles
en_passant_at_once = refl

-- en passant may not open the rank to the king
en_passant_opens_rank : legal (men ((a5, (White, King)) ∷ (e5, (White, Pawn)) ∷ (d5, (Black, Pawn)) ∷ (h5, (Black, Rook)) ∷ [])) White (Some (record { from = d7; to = d5; promo = None })) (record { from = e5; to = d6; promo = None }) ≡ false
unfolding initial_array array_of attacks attacks_from kind_attacks distance toward on_the_way king_distance play legal_on may_go in_check promotion_fits man_moves pawn_steps pawn_doubles pawn_captures pawn_captures_en_passant king_castles
en_passant_opens_rank = refl

-- a pawn that reaches the last rank becomes a queen, a rook, a bishop or a knight
promotions : map (λ promo. legal (men ((b7, (White, Pawn)) ∷ [])) White None (record { from = b7; to = b8; promo = promo })) (None ∷ Some Pawn ∷ Some Knight ∷ Some Bishop ∷ Some Rook ∷ Some Queen ∷ Some King ∷ []) ≡ false ∷ false ∷ true ∷ true ∷ true ∷ true ∷ false ∷ []
unfolding initial_array array_of attacks attacks_from kind_attacks distance toward on_the_way king_distance play legal_on may_go in_check promotion_fits man_moves pawn_steps pawn_doubles pawn_captures pawn_captures_en_passant king_castles
promotions = refl

-- h1 and g2 are the bits of 0x4080
bits_of_a_set : squares_of 0x4080 ≡ slice_set (slice_set no_odds h1 true) g2 true
unfolding squares_of
bits_of_a_set = refl
