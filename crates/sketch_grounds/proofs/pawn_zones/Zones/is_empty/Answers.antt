use Rattle.std.proofs.Common.{◌≡◌, Bool, List, [], ◌∷◌, length, refl, ap, sym, ◌∙◌, arith}
use Rattle.std.proofs.lemmas.Bool.{eq-eqb, eqb-true}
use Rattle.sketch_grounds.proofs.pawn_zones.Zones.is_empty.Goals as goal

none-left : (xs : List (List Bool)) → length xs ≡ 0 → xs ≡ []
none-left [] e = refl
none-left (x ∷ xs) e = absurd (omega arith)

pub returns : goal.returns
returns c = (
  λ h. sym c.self.view_is ∙ none-left c.self.inside.sets.items (sym c.len.ensures.value ∙ eqb-true c.len.result 0 h),
  λ none. eq-eqb c.len.result 0 (c.len.ensures.value ∙ ap (λ (l : List (List Bool)). length l) (c.self.view_is ∙ none)),
)
