-- Texts without a space or a line end in them.
use Rattle.std.proofs.Common.{◌≡◌, ℕ, zero, suc, ◌+◌, ◌%◌, ◌≤◌, ◌==◌, ◌||◌, Bool, true, false, List, [], ◌∷◌, ◌++◌, Option, Some, None, refl, sym, subst, arith, nat_le, nat_lt}
use Rattle.std.proofs.lemmas.Bool.{and_parts, leb-true}
use Rattle.std.proofs.lemmas.Fmt.{digits_decimal}
use Rattle.std.specs.Fmt.{decimal}
use Rattle.board_base.specs.Board.{Places}
use Rattle.board_base.specs.declared.men.Colour.{Colour}
use Rattle.board_base.specs.declared.men.Colour.TheVariants.{White, Black}
use Rattle.board_base.specs.declared.men.Kind.{Kind}
use Rattle.board_base.specs.declared.men.Kind.TheVariants.{Pawn, Knight, Bishop, Rook, Queen, King}
use Rattle.board_base.specs.declared.moves.Move.{Move}
use Rattle.fen_text.proofs.NumberLemmas.{digits_free}
use Rattle.query_base.specs.Asked.{Asked}
use Rattle.fen_text.specs.Parts.{Free}
use Rattle.fen_text.specs.Spelling.{symbol, run_text, rank_text, turn_letter, rights_text, en_passant_text, spelling}
use Rattle.fen_text.specs.WrittenParts.{rank_of, ranks_text}
use Rattle.fen_text.proofs.PartLemmas.{free_append}
use Rattle.fen_text.proofs.Spelled.{spelled}
use Rattle.cert_text.specs.Writable.{fits_depth}
use Rattle.cert_text.specs.NodeLines.{body_text}
use Rattle.cert_text.specs.declared.node_lines.BodyLine.{BodyLine}
use Rattle.cert_text.specs.declared.node_lines.BodyLine.TheVariants.{Rule, Back, Expand, Sketch}
use Rattle.fen_text.proofs.Decimals.{model}
use Rattle.sketch_text.proofs.PlainTexts.{plain_head}
use Rattle.cert_text.proofs.ReasonTexts.{reason_free}
use Rattle.fen_text.proofs.MoveFrees.{higher}

pub decimal_free : (n : ℕ) → n ≤ 999999 → Free 10 (decimal n)
decimal_free n few = digits_free 10 (decimal n) (omega arith) (digits_decimal model n (omega arith))

-- the text of a body has no line end
pub body_free : (depth : ℕ) (b : BodyLine) → depth ≤ 255 → fits_depth depth b ≡ true → Free 10 (body_text b)
body_free depth (Rule r) low fits = reason_free r fits
body_free depth (Back k) low fits =
    let parts = and_parts (nat_le 1 k) (nat_le k depth) fits in
    let k-low = leb-true k depth parts.1 in
    decimal_free k (omega arith)
body_free depth (Expand n) low fits =
    let parts = and_parts ((n == 0) || nat_lt depth 255) (nat_le n 999999) fits in
    decimal_free n (leb-true n 999999 parts.1)
body_free depth (Sketch h) low fits = (plain_head h fits).free

-- the four fields of a query

symbol_high : (c : Colour) (k : Kind) → 48 ≤ symbol c k
symbol_high White Pawn = omega arith
symbol_high White Knight = omega arith
symbol_high White Bishop = omega arith
symbol_high White Rook = omega arith
symbol_high White Queen = omega arith
symbol_high White King = omega arith
symbol_high Black Pawn = omega arith
symbol_high Black Knight = omega arith
symbol_high Black Bishop = omega arith
symbol_high Black Rook = omega arith
symbol_high Black Queen = omega arith
symbol_high Black King = omega arith

run_free : (n : ℕ) → Free 10 (run_text n)
run_free zero = refl
run_free (suc n) = higher 10 (49 + n) [] (omega arith) refl

rank_free : (run : ℕ) (places : Places) → Free 10 (rank_text run places)
rank_free run [] = run_free run
rank_free run (None ∷ places) = rank_free (run + 1) places
rank_free run (Some m ∷ places) =
    free_append 10 (run_text run) (symbol m.colour m.kind ∷ rank_text 0 places) (run_free run) (higher 10 (symbol m.colour m.kind) (rank_text 0 places) (omega (arith, symbol_high m.colour m.kind)) (rank_free 0 places))

ranks_free : (n : ℕ) (board : Places) → Free 10 (ranks_text n board)
unfolding ranks_text
ranks_free zero board = rank_free 0 (rank_of 0 board)
ranks_free (suc n) board = free_append 10 (rank_text 0 (rank_of (suc n) board)) (47 ∷ ranks_text n board) (rank_free 0 (rank_of (suc n) board)) (ranks_free n board)

turn_free : (c : Colour) (text : List ℕ) → Free 10 text → Free 10 (turn_letter c ∷ text)
turn_free White text free = free
turn_free Black text free = free

rights_free : (a b c d : Bool) → Free 10 (rights_text (record { white_short = a; white_long = b; black_short = c; black_long = d }))
rights_free true true true true = refl
rights_free true true true false = refl
rights_free true true false true = refl
rights_free true true false false = refl
rights_free true false true true = refl
rights_free true false true false = refl
rights_free true false false true = refl
rights_free true false false false = refl
rights_free false true true true = refl
rights_free false true true false = refl
rights_free false true false true = refl
rights_free false true false false = refl
rights_free false false true true = refl
rights_free false false true false = refl
rights_free false false false true = refl
rights_free false false false false = refl

en_passant_free : (c : Colour) (m : Option Move) → Free 10 (en_passant_text c m)
en_passant_free c None = refl
en_passant_free White (Some m) = higher 10 (97 + m.to % 8) (54 ∷ []) (omega arith) refl
en_passant_free Black (Some m) = higher 10 (97 + m.to % 8) (51 ∷ []) (omega arith) refl

-- the four-field text of a query has no line end
pub spelling_free : (q : Asked) → Free 10 (spelling q)
spelling_free q =
    subst (Free 10) (sym (spelled q))
    (free_append 10 (ranks_text 7 q.board) (32 ∷ turn_letter q.turn ∷ 32 ∷ (rights_text q.held ++ 32 ∷ en_passant_text q.turn q.only)) (ranks_free 7 q.board)
    (turn_free q.turn (32 ∷ (rights_text q.held ++ 32 ∷ en_passant_text q.turn q.only)) (free_append 10 (rights_text q.held) (32 ∷ en_passant_text q.turn q.only) (rights_free q.held.white_short q.held.white_long q.held.black_short q.held.black_long) (en_passant_free q.turn q.only))))
