-- Retractions that are copied one after another.
use Rattle.std.proofs.Common.{◌≡◌, ℕ, ◌+◌, ◌<◌, ◌≤◌, inl, inr, List, [], ◌∷◌, ◌++◌, length, take, ap, sym, ◌∙◌, arith}
use Rattle.std.specs.Prelude.{Option, Some, None, slice_get}
use Rattle.std.proofs.lemmas.Grind.{take_at_read}
use Rattle.std.proofs.lemmas.Option.{slice_get_cases}
use Rattle.board_base.specs.declared.unmoves.Unmove.{Unmove}

-- one retraction more
pub copied-step : (path : List Unmove) (i : ℕ) (own new : List Unmove) → i < length path → own ≡ take i path → new ≡ elim (slice_get path i) [ None ↦ own | Some u ↦ own ++ u ∷ [] ] → new ≡ take (i + 1) path
copied-step path i own new lt so_far last = elim (slice_get_cases path i).1 [
  | inl (x, inside, at, same) ↦
      last
      ∙ ap (λ (o : Option Unmove). elim o [ None ↦ own | Some u ↦ own ++ u ∷ [] ]) at
      ∙ ap (λ (l : List Unmove). l ++ x ∷ []) so_far
      ∙ ap (λ (u : Unmove). take i path ++ u ∷ []) (sym same)
      ∙ sym (take_at_read path i x lt).1
  | inr past ↦ let low : length path ≤ i = past.0 in absurd (omega arith)
]
