-- Texts of squares, moves and unmoves, without a byte below that of 0, such as a space or a line end.
use Rattle.std.proofs.Common.{ℕ, ◌+◌, ◌/◌, ◌%◌, ◌<◌, ◌≤◌, Bool, true, false, not, List, [], ◌∷◌, ◌++◌, Option, Some, None, refl, ap, arith}
use Rattle.std.proofs.lemmas.Bool.{and_from, ne_eqb}
use Rattle.board_base.specs.Texts.{square_text, letter_of, promo_text, move_text, capture_text, unmove_text}
use Rattle.board_base.specs.declared.men.Kind.{Kind}
use Rattle.board_base.specs.declared.men.Kind.TheVariants.{Pawn, Knight, Bishop, Rook, Queen, King}
use Rattle.board_base.specs.declared.moves.Move.{Move}
use Rattle.board_base.specs.declared.unmoves.Unmove.{Unmove}
use Rattle.fen_text.specs.Parts.{Free}
use Rattle.fen_text.proofs.PartLemmas.{free_append}

-- a byte above c, in front of a text without c
pub higher : (c b : ℕ) (text : List ℕ) → c < b → Free c text → Free c (b ∷ text)
higher c b text above free = and_from _ _ (ap not (ne_eqb b c (λ e. omega arith))) free

pub square_free : (c s : ℕ) → c < 48 → Free c (square_text s)
square_free c s low = higher c (97 + s % 8) ((49 + s / 8) ∷ []) (omega arith) (higher c (49 + s / 8) [] (omega arith) refl)

letter_high : (k : Kind) → 48 ≤ letter_of k
letter_high Pawn = omega arith
letter_high Knight = omega arith
letter_high Bishop = omega arith
letter_high Rook = omega arith
letter_high Queen = omega arith
letter_high King = omega arith

promo_free : (c : ℕ) (p : Option Kind) → c < 48 → Free c (promo_text p)
promo_free c None low = refl
promo_free c (Some k) low = higher c (letter_of k) [] (omega (arith, letter_high k)) refl

capture_free : (c : ℕ) (captured : Option Kind) (ep : Bool) → c < 48 → Free c (capture_text captured ep)
capture_free c captured true low = higher c 101 (112 ∷ []) (omega arith) (higher c 112 [] (omega arith) refl)
capture_free c None false low = refl
capture_free c (Some k) false low = higher c 120 (letter_of k ∷ []) (omega arith) (higher c (letter_of k) [] (omega (arith, letter_high k)) refl)

-- the text of a move has no byte below that of 0
pub move_free : (c : ℕ) (m : Move) → c < 48 → Free c (move_text m)
move_free c m low =
    free_append c (square_text m.from ++ square_text m.to) (promo_text m.promo) (free_append c (square_text m.from) (square_text m.to) (square_free c m.from low) (square_free c m.to low)) (promo_free c m.promo low)

-- the text of an unmove has no byte below that of 0
pub unmove_free : (c : ℕ) (u : Unmove) → c < 48 → Free c (unmove_text u)
unmove_free c u low =
    free_append c (move_text u.mv) (capture_text u.captured u.ep) (move_free c u.mv low) (capture_free c u.captured u.ep low)
