-- What changes in each round as long as it can settles.
use Rattle.std.proofs.Common.{◌≡◌, ℕ, zero, suc, ◌+◌, ◌-◌, ◌<◌, ◌≤◌, ◌⊎◌, inl, inr, Bool, true, false, cond, List, [], ◌∷◌, length, get_or, refl, ap, sym, ◌∙◌, arith}
use Rattle.std.proofs.lemmas.Bool.{both_ways}
use Rattle.general_lemmas.specs.Rounds.{after_rounds}

-- what a round leaves as it is stays
pub rounds-fixed : {A : Type 0} (step : A → A) (n : ℕ) (x : A) → step x ≡ x → after_rounds step n x ≡ x
unfolding after_rounds
rounds-fixed step zero x fixed = refl
rounds-fixed step (suc n) x fixed = ap (after_rounds step n) fixed ∙ rounds-fixed step n x fixed

-- what each round keeps
pub rounds-keep : {A : Type 0} (P : A → Type 0) (step : A → A) → ((x : A) → P x → P (step x)) → (n : ℕ) (x : A) → P x → P (after_rounds step n x)
unfolding after_rounds
rounds-keep P step keep zero x here = here
rounds-keep P step keep (suc n) x here = rounds-keep P step keep n (step x) (keep x here)

-- one round more, as long as there are any
pub rounds-more : {A : Type 0} (step : A → A) (n i : ℕ) (x y : A) → i < n → after_rounds step (n - i) x ≡ y → after_rounds step (n - (i + 1)) (step x) ≡ y
unfolding after_rounds
rounds-more step n i x y below h =
    let e : suc (n - (i + 1)) ≡ n - i = omega arith in
    ap (λ (k : ℕ). after_rounds step k x) e ∙ h

pub rounds-none : {A : Type 0} (step : A → A) (n i : ℕ) (x y : A) → n ≤ i → after_rounds step (n - i) x ≡ y → x ≡ y
unfolding after_rounds
rounds-none step n i x y past h = let e : 0 ≡ n - i = omega arith in ap (λ (k : ℕ). after_rounds step k x) e ∙ h

-- If each round leaves the value as it is or makes it smaller, it settles in as many rounds as its size.
pub settles : {A : Type 0} (P : A → Type 0) (step : A → A) (size : A → ℕ) → ((x : A) → P x → P (step x)) → ((x : A) → P x → (step x ≡ x) ⊎ (size (step x) < size x)) → (n : ℕ) (x : A) → P x → size x ≤ n → step (after_rounds step n x) ≡ after_rounds step n x
unfolding after_rounds
settles P step size keep falls zero x here small = elim (falls x here) [
  | inl fixed ↦ fixed
  | inr less ↦ absurd (omega arith)
]
settles P step size keep falls (suc n) x here small = elim (falls x here) [
  | inl fixed ↦
      let stays = rounds-fixed step n (step x) (ap step fixed) in
      ap step (stays ∙ fixed) ∙ fixed ∙ sym (stays ∙ fixed)
  | inr less ↦ settles P step size keep falls n (step x) (keep x here) (omega arith)
]

-- how many members a set has
pub count : List Bool → ℕ
count [] = 0
count (b ∷ set) = cond b 1 0 + count set

pub count-le : (set : List Bool) → count set ≤ length set
unfolding count
count-le [] = omega arith
count-le (true ∷ set) = omega (arith, count-le set)
count-le (false ∷ set) = omega (arith, count-le set)

fewer-cons : (x y : Bool) (a b : List Bool) → (x ≡ true → y ≡ true) → (a ≡ b) ⊎ (count a < count b) → (x ∷ a ≡ y ∷ b) ⊎ (count (x ∷ a) < count (y ∷ b))
unfolding count
fewer-cons true true a b first (inl same) = inl (ap (λ (l : List Bool). true ∷ l) same)
fewer-cons true true a b first (inr less) = inr (omega arith)
fewer-cons false false a b first (inl same) = inl (ap (λ (l : List Bool). false ∷ l) same)
fewer-cons false false a b first (inr less) = inr (omega arith)
fewer-cons false true a b first (inl same) = let e : count a ≡ count b = ap count same in inr (omega arith)
fewer-cons false true a b first (inr less) = inr (omega arith)
fewer-cons true false a b first rest = absurd (both_ways false refl (first refl))

-- of two sets of one length the smaller has fewer members, or they are the same
pub fewer : (a b : List Bool) → length a ≡ length b → ((s : ℕ) → get_or a s false ≡ true → get_or b s false ≡ true) → (a ≡ b) ⊎ (count a < count b)
unfolding count
fewer [] [] size within = inl refl
fewer [] (y ∷ b) size within = absurd (omega arith)
fewer (x ∷ a) [] size within = absurd (omega arith)
fewer (x ∷ a) (y ∷ b) size within = fewer-cons x y a b (within 0) (fewer a b (omega arith) (λ s. within (suc s)))
