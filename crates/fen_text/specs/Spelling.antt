-- The one four-field text of a query, as section 16.1 of the PGN standard describes it.
use Rattle.std.specs.Prelude.{ℕ, zero, suc, ◌+◌, ◌*◌, cond, List, [], ◌∷◌, ◌++◌, map, reverse, take, drop, Option, Some, None}
use Rattle.std.specs.List.{filter, join_with_byte, list_any, range_with_len}
use Rattle.board_base.specs.Board.{Places, file}
use Rattle.board_base.specs.Play.{all_castles}
use Rattle.board_base.specs.Rights.{Rights, holds}
use Rattle.board_base.specs.declared.men.Colour.{Colour}
use Rattle.board_base.specs.declared.men.Colour.TheVariants.{White, Black}
use Rattle.board_base.specs.declared.men.Kind.{Kind}
use Rattle.board_base.specs.declared.men.Kind.TheVariants.{Pawn, Knight, Bishop, Rook, Queen, King}
use Rattle.board_base.specs.declared.moves.Move.{Move}
use Rattle.query_base.specs.Asked.{Asked}
use Rattle.fen_text.specs.Fen.{castle_letter}

-- Section 16.1.3.1: the letter of a man, a capital for White
abbrev pub symbol : Colour → Kind → ℕ
symbol White Pawn = 80
symbol White Knight = 78
symbol White Bishop = 66
symbol White Rook = 82
symbol White Queen = 81
symbol White King = 75
symbol Black Pawn = 112
symbol Black Knight = 110
symbol Black Bishop = 98
symbol Black Rook = 114
symbol Black Queen = 113
symbol Black King = 107

-- Section 16.1.3.1: so many empty squares, as a digit or nothing
abbrev pub run_text : ℕ → List ℕ
run_text zero = []
run_text (suc n) = (49 + n) ∷ []

-- so many empty squares, and then these places of a rank
abbrev pub rank_text : ℕ → Places → List ℕ
rank_text run [] = run_text run
rank_text run (None ∷ places) = rank_text (run + 1) places
rank_text run (Some m ∷ places) = run_text run ++ symbol m.colour m.kind ∷ rank_text 0 places

-- Section 16.1.3.2: the letter of the side to move
abbrev pub turn_letter : Colour → ℕ
turn_letter White = 119
turn_letter Black = 98

-- Section 16.1.3.3: the letters of the castlings that are held, or a dash
abbrev pub rights_text : Rights → List ℕ
rights_text r = cond (list_any (holds r) all_castles) (map castle_letter (filter (holds r) all_castles)) (45 ∷ [])

-- Section 16.1.3.4: a dash, or the square that the double step passed over, on rank 6 if White is to move, else on rank 3
abbrev pub en_passant_text : Colour → Option Move → List ℕ
en_passant_text c None = 45 ∷ []
en_passant_text White (Some m) = (97 + file m.to) ∷ 54 ∷ []
en_passant_text Black (Some m) = (97 + file m.to) ∷ 51 ∷ []

-- the four fields, with a space between two; the first has the ranks, the highest first, with a slash between two
unfoldable pub spelling : Asked → List ℕ
spelling q =
    join_with_byte 32 (
    join_with_byte 47 (map (λ n. rank_text 0 (take 8 (drop (8 * n) q.board))) (reverse (range_with_len 0 8)))
    ∷ (turn_letter q.turn ∷ []) ∷ rights_text q.held ∷ en_passant_text q.turn q.only ∷ [])
