-- Trimming comes to an end: each round but the last takes a square from somebody.
use Rattle.std.proofs.Common.{◌≡◌, ℕ, zero, suc, ◌*◌, ◌<◌, ◌⊎◌, inl, inr, length, refl, ap, sym, ◌∙◌, arith}
use Rattle.general_lemmas.specs.Rounds.{after_rounds}
use Rattle.general_lemmas.proofs.Rounds.{rounds-fixed, settles}
use Rattle.figures.specs.Figures.{Sketch}
use Rattle.figures.specs.Trimmed.{trimmed, trims}
use Rattle.sketch_sets.specs.Remade.{AreWhole}
use Rattle.sketch_sets.specs.TrimmedOut.{trimmed_out}
use Rattle.sketch_sets.proofs.Sizes.{same-sets, smaller, total, total-most, trimmed-inside, trimmed-whole, trims-last}

trims-rounds : (n : ℕ) (S : Sketch) → trims n S ≡ after_rounds trimmed n S
unfolding after_rounds
trims-rounds zero S = refl
trims-rounds (suc n) S = trims-rounds n (trimmed S)

falls : (T : Sketch) → AreWhole T → (trimmed T ≡ T) ⊎ (total (trimmed T) < total T)
falls T whole = elim (smaller T (trimmed T) whole (trimmed-whole T) (trimmed-inside T)) [
  | inl same ↦ inl (same-sets T (trimmed T) (trimmed-inside T) same)
  | inr less ↦ inr less
]

ends : (n : ℕ) (S : Sketch) → AreWhole S → n ≡ 64 * length S → trimmed (trims n S) ≡ trims n S
ends n S whole e =
    let rounds = trims-rounds n S in
    let small = total-most S whole in
    ap trimmed rounds ∙ settles AreWhole trimmed total (λ T here. trimmed-whole T) falls n S whole (omega (arith, small, e)) ∙ sym rounds

stays : (n : ℕ) (S : Sketch) → trimmed S ≡ S → trims n S ≡ S
stays n S fixed = trims-rounds n S ∙ rounds-fixed trimmed n S fixed

either-first : (a b : ℕ) (S : Sketch) → trims a (trims b S) ≡ trims b (trims a S)
either-first zero b S = refl
either-first (suc a) b S = ap (trims a) (sym (trims-last b S)) ∙ either-first a b (trimmed S)

-- what some rounds leave, and another leaves as it is, is the end
pub out-reached : (S T : Sketch) → AreWhole S → (n : ℕ) × (T ≡ trims n S) → trimmed T ≡ T → T ≡ trimmed_out S
unfolding trimmed_out
out-reached S T whole (n, from) fixed =
    let most : ℕ = 64 * length S in
    sym (stays most T fixed) ∙ ap (trims most) from ∙ either-first most n S ∙ stays n (trims most S) (ends most S whole refl)
