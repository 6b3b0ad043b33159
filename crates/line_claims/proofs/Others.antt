-- Other unmoves of a move.
use Rattle.std.proofs.Common.{◌≡◌, Bool, true, false, ◌&&◌, not, ◌⊎◌, inl, inr, refl, sym, ap, ◌∙◌}
use Rattle.std.proofs.lemmas.Bool.{and_parts, and_from, cases_Bool}
use Rattle.std.specs.Prelude.{Option, Some}
use Rattle.std.specs.Bool.{beq}
use Rattle.general_lemmas.proofs.Truth.{beq-same}
use Rattle.board_base.specs.Legal.{is_move, same_promo}
use Rattle.board_base.specs.declared.men.Kind.{Kind}
use Rattle.board_base.specs.declared.moves.Move.{Move}
use Rattle.board_base.specs.declared.unmoves.Unmove.{Unmove}
use Rattle.board_base.proofs.Equal.{move_self, promo_is}
use Rattle.line_claims.specs.Due.{is_other}

pub truths_self : (a : Bool) → beq a a ≡ true
truths_self true = refl
truths_self false = refl

unmoves_equal : (u v : Unmove) → u.mv ≡ v.mv → u.captured ≡ v.captured → u.ep ≡ v.ep → u ≡ v
unmoves_equal u v m k e =
    ap (λ (x : Move). record u { mv = x }) m ∙ ap (λ (x : Option Kind). record u { mv = v.mv; captured = x }) k ∙ ap (λ (x : Bool). record v { ep = x }) e

-- of one move the unmove is this one or another
pub same_or_other : (u v : Unmove) → v.mv ≡ u.mv → (v ≡ u) ⊎ (is_other u v ≡ true)
same_or_other u v m = elim (cases_Bool (same_promo u.captured v.captured && beq u.ep v.ep)) [
  | inl same ↦
      let parts = and_parts _ _ same in
      inl (unmoves_equal v u m (sym (promo_is _ _ parts.0)) (sym (beq-same _ _ parts.1)))
  | inr differs ↦ inr (and_from _ _ (ap (is_move (Some u.mv)) m ∙ move_self u.mv) (ap not differs))
]
