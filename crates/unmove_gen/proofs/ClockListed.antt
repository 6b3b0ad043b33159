-- Where a clock is demanded, which of the candidates that fit are listed.
use Rattle.std.proofs.Common.{◌≡◌, Bool, true, false, ◌&&◌, ◌||◌, List, refl, ap, ◌∙◌}
use Rattle.std.specs.Prelude.{Some, None, is_some}
use Rattle.board_base.specs.Board.{at, is_a}
use Rattle.board_base.specs.declared.men.Kind.{Kind}
use Rattle.board_base.specs.declared.men.Kind.TheVariants.{Pawn, Knight, Bishop, Rook, Queen}
use Rattle.board_base.specs.declared.moves.Move.{Move}
use Rattle.query_base.specs.Asked.{Asked}
use Rattle.unmove_gen.specs.Listed.{allows, is_listed, is_retraction, obeys_clock, taking, taking_en_passant}
use Rattle.unmove_gen.specs.Plain.{TellListed, AreFitting, kept_of}
use Rattle.unmove_gen.proofs.PlainFitting.{same-seven}

each-resets : (x : Bool) → (x || true || true) ≡ (x || true || false)
each-resets true = refl
each-resets false = refl

-- the clock allows one capture by the move where it allows another
one-for-all : (q : Asked) (m : Move) (k : Kind) → obeys_clock q (taking_en_passant m) ≡ obeys_clock q (taking m (Some k))
one-for-all q m k = ap (allows q.clock) (each-resets (is_a Pawn (at q.board m.to) || is_some m.promo))

pub kept-listed : (q : Asked) (m : Move) (fitting : List Bool) → AreFitting q m fitting → TellListed q m (kept_of fitting (obeys_clock q (taking m None)) (obeys_clock q (taking_en_passant m)))
unfolding is_listed
kept-listed q m fitting fit =
    let so : (k : Kind) → (is_retraction q (taking m (Some k)) && obeys_clock q (taking_en_passant m)) ≡ is_listed q (taking m (Some k)) = λ k. ap (λ (b : Bool). is_retraction q (taking m (Some k)) && b) (one-for-all q m k) in
    ap (λ (l : List Bool). kept_of l (obeys_clock q (taking m None)) (obeys_clock q (taking_en_passant m))) fit
    ∙ same-seven _ _ _ _ _ _ _ _ _ _ _ _ _ _ refl (so Pawn) (so Knight) (so Bishop) (so Rook) (so Queen) refl
