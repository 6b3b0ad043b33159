-- What one pawn costs.
use Rattle.std.proofs.Common.{◌≡◌, ℕ, ◌<◌, ◌||◌, List, Bool, true, false, cond, not, refl, ap, ◌∙◌, inl, inr, arith}
use Rattle.std.proofs.lemmas.Bool.{cases_Bool, cond-true}
use Rattle.board_base.specs.Attacks.{distance}
use Rattle.board_base.specs.Board.{file, is_in}
use Rattle.board_base.specs.declared.men.Colour.{Colour}
use Rattle.pawn_assign.specs.PawnCosts.{can_come, pawn_cost, pawn_home}

pub pawn_cost-come : (o : List Bool) (c : Colour) (s f : ℕ) → is_in o (pawn_home c f) ≡ false → can_come c s f ≡ true → pawn_cost o c s f ≡ distance (file s) f
unfolding pawn_cost
pawn_cost-come o c s f home come =
    ap (λ (b : Bool). cond (b || not (can_come c s f)) 64 (distance (file s) f)) home
    ∙ ap (λ (b : Bool). cond (not b) 64 (distance (file s) f)) come

neither : (a b : Bool) → (a || not b) ≡ false → (b ≡ true) × (a ≡ false)
neither false true h = (refl, refl)
neither false false h = cc
neither true b h = cc

-- what costs less than 64 can have come from there
pub pawn_cost-low : (o : List Bool) (c : Colour) (s f : ℕ) → pawn_cost o c s f < 64 → (can_come c s f ≡ true) × (is_in o (pawn_home c f) ≡ false)
unfolding pawn_cost
pawn_cost-low o c s f low = elim (cases_Bool (is_in o (pawn_home c f) || not (can_come c s f))) [
  | inl out ↦ absurd (let is = cond-true (is_in o (pawn_home c f) || not (can_come c s f)) 64 (distance (file s) f) out in omega arith)
  | inr come ↦ neither (is_in o (pawn_home c f)) (can_come c s f) come
]
