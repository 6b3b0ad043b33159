-- Unmoves that are listed and unmoves that aren't, and predecessors, on boards that are written out.
use Rattle.std.proofs.Common.{◌≡◌, ℕ, true, false, [], ◌∷◌, map, refl}
use Rattle.std.specs.Prelude.{Some, None, slice_set}
use Rattle.board_base.specs.Board.{Places, array_of, initial_array, man, no_men, no_odds}
use Rattle.board_base.specs.Rights.{no_rights}
use Rattle.board_base.specs.Attacks.{attacks, attacks_from, distance, kind_attacks, king_distance, on_the_way, toward}
use Rattle.board_base.specs.Play.{play}
use Rattle.board_base.specs.Legal.{in_check, king_castles, legal_on, man_moves, may_go, pawn_captures, pawn_captures_en_passant, pawn_doubles, pawn_steps, promotion_fits}
use Rattle.board_base.specs.declared.men.Colour.{Colour}
use Rattle.board_base.specs.declared.men.Colour.TheVariants.{White, Black}
use Rattle.board_base.specs.declared.men.Kind.TheVariants.{King, Knight, Pawn, Queen, Rook}
use Rattle.board_base.specs.declared.moves.Move.{Move}
use Rattle.board_base.specs.declared.unmoves.Unmove.{Unmove}
use Rattle.play_rules.specs.Laws.{has_no_pawn_on_ends}
use Rattle.men_account.specs.Account.{accounts_for, men}
use Rattle.query_base.specs.Asked.{Asked}
use Rattle.unmove_gen.specs.TakenBack.{taken_back}
use Rattle.unmove_gen.specs.Sane.{is_sane}
use Rattle.unmove_gen.specs.Listed.{is_listed, is_retraction, same_places, taking, taking_en_passant}
use Rattle.unmove_gen.specs.Predecessor.{predecessor}

abbrev move : ℕ → ℕ → Move
move from to = record { from = from; to = to; promo = None }

-- a move that captured nothing
abbrev quiet : ℕ → ℕ → Unmove
quiet from to = taking (move from to) None

-- the board and the side to move without odds, with nothing demanded
abbrev asked : Places → Colour → Asked
asked board turn = record { board = board; turn = turn; odds = no_odds; held = no_rights; only = None; barred = None; clock = None }

-- kings on e1 and e8
abbrev kings : Places
kings = slice_set (slice_set no_men 4 (man White King)) 60 (man Black King)

-- and Black's pawn on d5
abbrev pawn_on_d5 : Places
pawn_on_d5 = slice_set kings 35 (man Black Pawn)

-- the pawn on d5 came from d7 or d6, or took a queen from c6; not from c6 without a capture, from d4, or from e8, which isn't empty
pawn_moves : map (is_listed (asked pawn_on_d5 White)) (quiet 51 35 ∷ quiet 43 35 ∷ taking (move 42 35) (Some Queen) ∷ quiet 42 35 ∷ quiet 27 35 ∷ quiet 60 35 ∷ []) ≡ true ∷ true ∷ true ∷ false ∷ false ∷ false ∷ []
unfolding is_listed is_retraction taken_back same_places is_sane has_no_pawn_on_ends accounts_for array_of initial_array men attacks attacks_from kind_attacks distance toward on_the_way king_distance play legal_on may_go in_check promotion_fits man_moves pawn_steps pawn_doubles pawn_captures pawn_captures_en_passant king_castles
pawn_moves = refl

-- where the double step is demanded, the king came from nowhere, and where it is barred, the pawn came from d6 alone
demanded_and_barred : map (λ q. map (is_listed q) (quiet 51 35 ∷ quiet 43 35 ∷ quiet 61 60 ∷ [])) (record (asked pawn_on_d5 White) { only = Some (move 51 35) } ∷ record (asked pawn_on_d5 White) { barred = Some (move 51 35) } ∷ []) ≡ (true ∷ false ∷ false ∷ []) ∷ (false ∷ true ∷ true ∷ []) ∷ []
unfolding is_listed is_retraction taken_back same_places is_sane has_no_pawn_on_ends accounts_for array_of initial_array men attacks attacks_from kind_attacks distance toward on_the_way king_distance play legal_on may_go in_check promotion_fits man_moves pawn_steps pawn_doubles pawn_captures pawn_captures_en_passant king_castles
demanded_and_barred = refl

-- the king on e8 came from f8, but not where Black's right to castle is held
king_stayed : map (λ held. is_listed (record (asked pawn_on_d5 White) { held = held }) (quiet 61 60)) (no_rights ∷ record no_rights { black_short = true } ∷ []) ≡ true ∷ false ∷ []
unfolding is_listed is_retraction taken_back same_places is_sane has_no_pawn_on_ends accounts_for array_of initial_array men attacks attacks_from kind_attacks distance toward on_the_way king_distance play legal_on may_go in_check promotion_fits man_moves pawn_steps pawn_doubles pawn_captures pawn_captures_en_passant king_castles
king_stayed = refl

-- kings on e1 and e8, and White's pawns at home with a queen on d4
abbrev pawns_and_queen : Places
pawns_and_queen =
    slice_set (slice_set (slice_set (slice_set (slice_set (slice_set (slice_set (slice_set (slice_set kings 27 (man White Queen)) 8 (man White Pawn)) 9 (man White Pawn)) 10 (man White Pawn)) 11 (man White Pawn)) 12 (man White Pawn)) 13 (man White Pawn)) 14 (man White Pawn)) 15 (man White Pawn)

-- the king on e8 came from e7, but not in a game at the odds of White's queen, where the one on d4 must have been a ninth pawn
no_ninth_pawn : map (λ o. is_listed (record (asked pawns_and_queen White) { odds = o }) (quiet 52 60)) (no_odds ∷ slice_set no_odds 3 true ∷ []) ≡ true ∷ false ∷ []
unfolding is_listed is_retraction taken_back same_places is_sane has_no_pawn_on_ends accounts_for array_of initial_array men attacks attacks_from kind_attacks distance toward on_the_way king_distance play legal_on may_go in_check promotion_fits man_moves pawn_steps pawn_doubles pawn_captures pawn_captures_en_passant king_castles
no_ninth_pawn = refl

-- kings on e1 and e8, and White's pawn on d6
abbrev pawn_on_d6 : Places
pawn_on_d6 = slice_set kings 43 (man White Pawn)

abbrev e5xd6_ep : Unmove
e5xd6_ep = taking_en_passant (move 36 43)

-- the pawn on d6 took en passant from e5; it did not go there without a capture, nor past a man on d7, from where a double step began
took_en_passant : map (is_listed (asked pawn_on_d6 Black)) (e5xd6_ep ∷ quiet 36 43 ∷ []) ≡ true ∷ false ∷ []
unfolding is_listed is_retraction taken_back same_places is_sane has_no_pawn_on_ends accounts_for array_of initial_array men attacks attacks_from kind_attacks distance toward on_the_way king_distance play legal_on may_go in_check promotion_fits man_moves pawn_steps pawn_doubles pawn_captures pawn_captures_en_passant king_castles
took_en_passant = refl

d7_is_taken : is_listed (asked (slice_set pawn_on_d6 51 (man Black Knight)) Black) e5xd6_ep ≡ false
unfolding is_listed is_retraction taken_back same_places is_sane has_no_pawn_on_ends accounts_for array_of initial_array men attacks attacks_from kind_attacks distance toward on_the_way king_distance play legal_on may_go in_check promotion_fits man_moves pawn_steps pawn_doubles pawn_captures pawn_captures_en_passant king_castles
d7_is_taken = refl

-- before the capture Black's pawn stood on d5, White's on e5, and the double step from d7 was the last move
before_en_passant : predecessor (asked pawn_on_d6 Black) e5xd6_ep ≡ (record (asked (slice_set pawn_on_d5 36 (man White Pawn)) White) { only = Some (move 51 35) })
unfolding taken_back distance
before_en_passant = refl

-- the games before a retraction are at the odds of those with it
same_odds : (predecessor (record (asked pawn_on_d5 White) { odds = slice_set no_odds 3 true }) (quiet 43 35)).odds ≡ slice_set no_odds 3 true
same_odds = refl

-- kings on g1 and e8, and White's rook on f1
abbrev castled : Places
castled = slice_set (slice_set (slice_set no_men 6 (man White King)) 5 (man White Rook)) 60 (man Black King)

-- before the castling king and rook stood at home, and its right was held
before_castling : predecessor (asked castled Black) (quiet 4 6) ≡ (record (asked (slice_set kings 7 (man White Rook)) White) { held = record no_rights { white_short = true } })
unfolding taken_back
before_castling = refl

-- kings on e1 and e8, and White's knight on a8
abbrev knight_on_a8 : Places
knight_on_a8 = slice_set kings 56 (man White Knight)

-- before a capture with promotion White's pawn stood on b7, and Black's rook on a8
before_promotion : predecessor (asked knight_on_a8 Black) (taking (record (move 49 56) { promo = Some Knight }) (Some Rook)) ≡ (asked (slice_set (slice_set kings 49 (man White Pawn)) 56 (man Black Rook)) White)
unfolding taken_back
before_promotion = refl
