-- The text of a query, as its fields are written.
use Rattle.std.proofs.Common.{◌≡◌, ◌+◌, Bool, true, false, cond, ◌||◌, [], ◌∷◌, ◌++◌, Some, refl}
use Rattle.board_base.specs.Board.{file}
use Rattle.board_base.specs.Rights.{Rights}
use Rattle.board_base.specs.declared.men.Colour.{Colour}
use Rattle.board_base.specs.declared.men.Colour.TheVariants.{White, Black}
use Rattle.board_base.specs.declared.moves.Move.{Move}
use Rattle.query_base.specs.Asked.{Asked}
use Rattle.fen_text.specs.Fen.{en_passant_digit}
use Rattle.fen_text.specs.Spelling.{turn_letter, rights_text, en_passant_text, spelling}
use Rattle.fen_text.specs.WrittenParts.{letter_if, ranks_text}

-- the fields, one after another
pub spelled : (q : Asked) → spelling q ≡ ranks_text 7 q.board ++ 32 ∷ turn_letter q.turn ∷ 32 ∷ (rights_text q.held ++ 32 ∷ en_passant_text q.turn q.only)
unfolding spelling ranks_text
spelled q = refl

-- the letters of castlings, each if it is held
pub letters_are : (k q kk qq : Bool) → rights_text (record { white_short = k; white_long = q; black_short = kk; black_long = qq }) ≡ cond (k || q || kk || qq) (letter_if k 75 ++ letter_if q 81 ++ letter_if kk 107 ++ letter_if qq 113) (45 ∷ [])
letters_are false false false false = refl
letters_are false false false true = refl
letters_are false false true false = refl
letters_are false false true true = refl
letters_are false true false false = refl
letters_are false true false true = refl
letters_are false true true false = refl
letters_are false true true true = refl
letters_are true false false false = refl
letters_are true false false true = refl
letters_are true false true false = refl
letters_are true false true true = refl
letters_are true true false false = refl
letters_are true true false true = refl
letters_are true true true false = refl
letters_are true true true true = refl

pub rights_written : (r : Rights) → rights_text r ≡ cond (r.white_short || r.white_long || r.black_short || r.black_long) (letter_if r.white_short 75 ++ letter_if r.white_long 81 ++ letter_if r.black_short 107 ++ letter_if r.black_long 113) (45 ∷ [])
rights_written r = letters_are r.white_short r.white_long r.black_short r.black_long

-- the square that a double step passed over: its file, and the digit of its rank
pub passed : (c : Colour) (m : Move) → en_passant_text c (Some m) ≡ (97 + file m.to) ∷ en_passant_digit c ∷ []
passed White m = refl
passed Black m = refl
