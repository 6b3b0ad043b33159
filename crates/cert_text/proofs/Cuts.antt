-- Where the first line ends.
use Rattle.std.proofs.Common.{◌≡◌, ◌≢◌, ℕ, zero, suc, ◌+◌, ◌<◌, ◌≤◌, ◌==◌, cond, Bool, true, false, List, [], ◌∷◌, length, get_or, take, drop, refl, ap, ◌∙◌, arith}
use Rattle.std.proofs.lemmas.Bool.{eq-eqb, ne_eqb, cond-true, cond-false}
use Rattle.std.specs.List.{onto_first}
use Rattle.cert_text.specs.Lines.{cut}

pub cut-at : (bytes : List ℕ) (i : ℕ) → i < length bytes → ((k : ℕ) → k < i → get_or bytes k 0 ≢ 10) → get_or bytes i 0 ≡ 10 → cut bytes ≡ take (suc i) bytes ∷ cut (drop (suc i) bytes)
cut-at [] i inside before here = absurd (omega arith)
cut-at (b ∷ bytes) zero inside before here =
    cond-true (b == 10) ((b ∷ []) ∷ cut bytes) (onto_first b (cut bytes)) (eq-eqb b 10 here)
cut-at (b ∷ bytes) (suc i) inside before here =
    cond-false (b == 10) ((b ∷ []) ∷ cut bytes) (onto_first b (cut bytes)) (ne_eqb b 10 (before 0 (omega arith))) ∙ ap (onto_first b) (cut-at bytes i (omega arith) (λ k below. before (suc k) (omega arith)) here)

pub cut-none : (b : ℕ) (bytes : List ℕ) → ((k : ℕ) → k < length (b ∷ bytes) → get_or (b ∷ bytes) k 0 ≢ 10) → cut (b ∷ bytes) ≡ (b ∷ bytes) ∷ []
cut-none b [] before = cond-false (b == 10) _ (onto_first b (cut [])) (ne_eqb b 10 (before 0 (omega arith)))
cut-none b (c ∷ bytes) before =
    cond-false (b == 10) _ (onto_first b (cut (c ∷ bytes))) (ne_eqb b 10 (before 0 (omega arith))) ∙ ap (onto_first b) (cut-none c bytes (λ k below. before (suc k) (omega arith)))

pub cut-whole : (bytes : List ℕ) → bytes ≢ [] → ((k : ℕ) → k < length bytes → get_or bytes k 0 ≢ 10) → cut bytes ≡ bytes ∷ []
cut-whole [] some before = absurd (some refl)
cut-whole (b ∷ bytes) some before = cut-none b bytes before

onto_longer : (b : ℕ) (lines : List (List ℕ)) → length (onto_first b lines) ≤ length lines + 1
onto_longer b [] = omega arith
onto_longer b (l ∷ lines) = omega arith

cut_step : (t : Bool) (b : ℕ) (lines : List (List ℕ)) → length (cond t ((b ∷ []) ∷ lines) (onto_first b lines)) ≤ length lines + 1
cut_step true b lines = omega arith
cut_step false b lines = onto_longer b lines

-- there are no more lines than bytes
pub few_lines : (bytes : List ℕ) → length (cut bytes) ≤ length bytes
few_lines [] = omega arith
few_lines (b ∷ bytes) = omega (arith, cut_step (b == 10) b (cut bytes), few_lines bytes)
