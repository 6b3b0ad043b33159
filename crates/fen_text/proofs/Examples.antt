-- Texts that are FEN, with what they ask for, and texts that aren't.
use Rattle.std.proofs.Common.{◌≡◌, true, false, [], ◌∷◌, map, refl}
use Rattle.std.specs.Prelude.{Some, None, codes, is_some, slice_set}
use Rattle.board_base.specs.Board.{Places, man, no_men}
use Rattle.board_base.specs.Rights.{Rights, no_rights}
use Rattle.board_base.specs.declared.men.Colour.TheVariants.{White, Black}
use Rattle.board_base.specs.declared.men.Kind.TheVariants.{King, Pawn, Rook}
use Rattle.board_base.specs.declared.moves.Move.{Move}
use Rattle.board_base.specs.Squares.{squares_of}
use Rattle.fen_text.specs.OddsLines.{odds_line, odds_of}
use Rattle.fen_text.specs.Parts.{parted}
use Rattle.fen_text.specs.Ranks.{is_symbol, places_of, rank}
use Rattle.fen_text.specs.Sets.{set_of}
use Rattle.fen_text.specs.Fen.{asked, fen, from_en_passant, from_numbers, from_rights, from_turn, number, placement, ranks, rights}

-- kings on e1 and e8, White's rook on h1, and pawns on a2 and d5
abbrev few_men : Places
few_men = slice_set (slice_set (slice_set (slice_set (slice_set no_men 4 (man White King)) 60 (man Black King)) 7 (man White Rook)) 8 (man White Pawn)) 35 (man Black Pawn)

abbrev whites_short : Rights
whites_short = record no_rights { white_short = true }

abbrev d7d5 : Move
d7d5 = record { from = 51; to = 35; promo = None }

-- four fields that demand nothing, and six with two numbers, which stand beside the query
no_demands : fen (codes "8/8/8/8/8/8/8/8 w - -") ≡ Some (asked no_men White no_rights None, None)
unfolding fen from_turn from_rights from_en_passant from_numbers parted placement ranks rank is_symbol places_of rights number
no_demands = refl

six_fields : fen (codes "8/8/8/8/8/8/8/8 b - - 0 12") ≡ Some (asked no_men Black no_rights None, Some (0, 12))
unfolding fen from_turn from_rights from_en_passant from_numbers parted placement ranks rank is_symbol places_of rights number
six_fields = refl

-- K demands White's short castling, and d6 with White to move the double step from d7 to d5
demands : fen (codes "4k3/8/8/3p4/8/8/P7/4K2R w K d6") ≡ Some (asked few_men White whites_short (Some d7d5), None)
unfolding fen from_turn from_rights from_en_passant from_numbers parted placement ranks rank is_symbol places_of rights number
demands = refl

-- nine squares on a rank, a digit behind a digit, seven ranks, no such man, no such side
bad_boards : map (λ text. is_some (fen text)) (codes "9/8/8/8/8/8/8/8 w - -" ∷ codes "44/8/8/8/8/8/8/8 w - -" ∷ codes "8/8/8/8/8/8/8 w - -" ∷ codes "x7/8/8/8/8/8/8/8 w - -" ∷ codes "8/8/8/8/8/8/8/8 W - -" ∷ []) ≡ false ∷ false ∷ false ∷ false ∷ false ∷ []
unfolding fen from_turn from_rights from_en_passant from_numbers parted placement ranks rank is_symbol places_of rights number
bad_boards = refl

-- rights out of order, the double step of the side to move, five fields, no field, two spaces
bad_fields : map (λ text. is_some (fen text)) (codes "8/8/8/8/8/8/8/8 w QK -" ∷ codes "8/8/8/8/8/8/8/8 w - d3" ∷ codes "8/8/8/8/8/8/8/8 w - - 0" ∷ [] ∷ codes "8/8/8/8/8/8/8/8  w - -" ∷ []) ≡ false ∷ false ∷ false ∷ false ∷ false ∷ []
unfolding fen from_turn from_rights from_en_passant from_numbers parted placement ranks rank is_symbol places_of rights number
bad_fields = refl

-- no square, e1, e4, a capital, fifteen digits
bad_odds : map (λ text. is_some (odds_line text)) (codes "odds 0000000000000000" ∷ codes "odds 0000000000000010" ∷ codes "odds 0000000010000000" ∷ codes "odds 000000000000A000" ∷ codes "odds 000000000000100" ∷ []) ≡ false ∷ false ∷ false ∷ false ∷ false ∷ []
unfolding odds_line odds_of set_of squares_of
bad_odds = refl

-- a2, and the queens' home squares
good_odds : map (λ text. is_some (odds_line text)) (codes "odds 0000000000000100" ∷ codes "odds 0800000000000008" ∷ []) ≡ true ∷ true ∷ []
unfolding odds_line odds_of set_of squares_of
good_odds = refl
