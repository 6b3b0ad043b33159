-- Sets that are found square by square, and lists that are filled.
use Rattle.std.proofs.Common.{◌≡◌, ℕ, ◌+◌, ◌<◌, ◌≤◌, inl, inr, Bool, true, false, cond, List, length, get_or, set, refl, ap, sym, subst, ◌∙◌, arith}
use Rattle.std.specs.Prelude.{◌↔◌, IsTrue, slice_set}
use Rattle.std.proofs.lemmas.Bool.{both_ways, cases_eq}
use Rattle.std.proofs.lemmas.List.{get_or-set_other, get_or-set_same, length-set}
use Rattle.board_base.specs.Board.{is_in}
use Rattle.board_base.specs.Squares.{squares_of}
use Rattle.board_base.specs.SquareNumbers.{length-squares_of}
use Rattle.cage_rules.proofs.Filling.{none-in-zero}

-- the set has those of the first i squares of which it is told
pub record Found (P : ℕ → Type 0) (found : List Bool) (i : ℕ) : Type 0 where
  pub size : length found ≡ 64
  pub each : (s : ℕ) → IsTrue (is_in found s) ↔ ((s < i) × P s)

pub found-none : (P : ℕ → Type 0) (found : List Bool) → found ≡ squares_of 0 → Found P found 0
found-none P found e = record {
  size = ap length e ∙ length-squares_of 0;
  each = λ s. (λ yes. absurd (both_ways _ (ap (λ (l : List Bool). is_in l s) e ∙ none-in-zero s) yes), λ h. let low : s < 0 = h.0 in absurd (omega arith));
}

pub found-step : (P : ℕ → Type 0) (found more : List Bool) (i s : ℕ) (b : Bool) → i < 64 → s ≡ i → more ≡ cond b (slice_set found s true) found → (IsTrue b ↔ P s) → Found P found i → Found P more (i + 1)
found-step P found more i s true inside here e told before =
    let size = before.size in
    let is : P i = subst P here (told.0 refl) in
    let now : more ≡ slice_set found i true = e ∙ ap (λ (t : ℕ). slice_set found t true) here in
    record {
      size = ap length now ∙ length-set found i true ∙ size;
      each = λ k. elim (cases_eq k i) [
        | inl same ↦ (
          λ yes. (omega (arith, same), subst P (sym same) is),
          λ h. ap (λ (l : List Bool). is_in l k) now ∙ ap (is_in (slice_set found i true)) same ∙ get_or-set_same found i true false (omega (arith, size, inside)),
        )
        | inr other ↦
            let as_before : is_in more k ≡ is_in found k = ap (λ (l : List Bool). is_in l k) now ∙ get_or-set_other found i k true false other in (
              λ yes. let h = (before.each k).0 (sym as_before ∙ yes) in let low : k < i = h.0 in (omega arith, h.1),
              λ h. let low : k < i + 1 = h.0 in as_before ∙ (before.each k).1 (omega (arith, other), h.1),
            )
      ];
    }
found-step P found more i s false inside here e told before = record {
  size = ap length e ∙ before.size;
  each = λ k. elim (cases_eq k i) [
    | inl same ↦
        let no : P k → ⊥ = λ is. both_ways false refl (told.1 (subst P (same ∙ sym here) is)) in (
          λ yes. let h = (before.each k).0 (sym (ap (λ (l : List Bool). is_in l k) e) ∙ yes) in (let low : k < i = h.0 in omega arith, h.1),
          λ h. absurd (no h.1),
        )
    | inr other ↦
        let as_before : is_in more k ≡ is_in found k = ap (λ (l : List Bool). is_in l k) e in (
          λ yes. let h = (before.each k).0 (sym as_before ∙ yes) in let low : k < i = h.0 in (omega arith, h.1),
          λ h. let low : k < i + 1 = h.0 in as_before ∙ (before.each k).1 (omega (arith, other), h.1),
        )
  ];
}

pub found-all : (P : ℕ → Type 0) (found : List Bool) (i : ℕ) → 64 ≤ i → Found P found i → (s : ℕ) → s < 64 → IsTrue (is_in found s) ↔ P s
found-all P found i past all s inside = (λ yes. ((all.each s).0 yes).1, λ is. (all.each s).1 (omega arith, is))

-- a list that is filled place by place
pub filled-more : {A : Type 0} (P : ℕ → A → Type 0) (places : List A) (j : ℕ) (x none : A) → j < length places → ((k : ℕ) → k < j → P k (get_or places k none)) → P j x → (k : ℕ) → k < j + 1 → P k (get_or (set places j x) k none)
filled-more {A} P places j x none inside before here k low = elim (cases_eq k j) [
  | inl same ↦
      let e : get_or (set places j x) k none ≡ x = ap (λ (t : ℕ). get_or (set places j x) t none) same ∙ get_or-set_same places j x none inside in
      subst (P k) (sym e) (subst (λ (n : ℕ). P n x) (sym same) here)
  | inr other ↦ subst (P k) (sym (get_or-set_other places j k x none other)) (before k (omega arith))
]

-- a statement of the numbers below n, and of n
pub below-more : (P : ℕ → Type 0) (n : ℕ) → ((m : ℕ) → m < n → P m) → P n → (m : ℕ) → m < n + 1 → P m
below-more P n before here m low = elim (cases_eq m n) [
  | inl same ↦ subst P (sym same) here
  | inr other ↦ before m (omega arith)
]
