-- Figures by their numbers.
use Rattle.std.proofs.Common.{◌≡◌, ℕ, zero, suc, ◌<◌, ◌≤◌, List, [], ◌∷◌, length, get_or, refl, ap, sym, arith}
use Rattle.std.specs.Prelude.{None, Some}
use Rattle.past_sketches.specs.Figures.{Figure, figure_at}

pub at-some : (T : List Figure) (i : ℕ) (f : Figure) → i < length T → get_or T i f ≡ f → Some f ≡ figure_at T i
at-some [] i f low e = absurd (omega arith)
at-some (g ∷ T) zero f low e = ap (λ (h : Figure). Some h) (sym e)
at-some (g ∷ T) (suc i) f low e = at-some T i f (omega arith) e

pub at-none : (T : List Figure) (i : ℕ) → length T ≤ i → None ≡ figure_at T i
at-none [] i past = refl
at-none (g ∷ T) zero past = absurd (omega arith)
at-none (g ∷ T) (suc i) past = at-none T i (omega arith)
