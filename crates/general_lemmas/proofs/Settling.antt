-- What can be settled, by its parts.
use Rattle.std.proofs.Common.{◌≡◌, ℕ, zero, suc, ◌<◌, ◌≤◌, Bool, true, false, List, [], ◌∷◌, ◌⊎◌, inl, inr, refl, subst, arith}
use Rattle.std.specs.Prelude.{IsTrue}
use Rattle.std.specs.Bool.{Decides}
use Rattle.std.specs.List.{Contains}
use Rattle.std.proofs.lemmas.Bool.{both_ways, cases_lt}
use Rattle.general_lemmas.proofs.Lists.{contains-cases, contains-first, contains-later, contains-none}

-- it holds, or nothing proves it
abbrev pub Settled : Type 0 → Type 0
Settled P = P ⊎ (P → ⊥)

-- a test settles what it decides
pub by_test : (P : Type 0) (b : Bool) → Decides b P → Settled P
by_test P true d = inl (d.0 refl)
by_test P false d = inr (λ p. both_ways false refl (d.1 p))

pub test : (b : Bool) → Settled (IsTrue b)
test true = inl refl
test false = inr (λ e. both_ways false refl e)

pub negated : (P : Type 0) → Settled P → Settled (P → ⊥)
negated P (inl p) = inr (λ f. f p)
negated P (inr f) = inl f

pub both : (P Q : Type 0) → Settled P → Settled Q → Settled (P × Q)
both P Q (inl p) (inl q) = inl (p, q)
both P Q (inl p) (inr g) = inr (λ h. g h.1)
both P Q (inr f) q = inr (λ h. f h.0)

pub either : (P Q : Type 0) → Settled P → Settled Q → Settled (P ⊎ Q)
either P Q (inl p) q = inl (inl p)
either P Q (inr f) (inl q) = inl (inr q)
either P Q (inr f) (inr g) = inr (λ h. elim h [ inl p ↦ f p | inr q ↦ g q ])

pub implied : (P Q : Type 0) → Settled P → Settled Q → Settled (P → Q)
implied P Q (inr f) q = inl (λ p. absurd (f p))
implied P Q (inl p) (inl q) = inl (λ _. q)
implied P Q (inl p) (inr g) = inr (λ h. g (h p))

pub same : (P Q : Type 0) → (P → Q) → (Q → P) → Settled P → Settled Q
same P Q f g (inl p) = inl (f p)
same P Q f g (inr h) = inr (λ q. h (g q))

pub below : (a b : ℕ) → Settled (a < b)
below a b = elim (cases_lt a b) [ inl less ↦ inl less | inr past ↦ inr (λ less. absurd (omega arith)) ]

pub at_most : (a b : ℕ) → Settled (a ≤ b)
at_most a b = elim (cases_lt b a) [ inl above ↦ inr (λ most. absurd (omega arith)) | inr most ↦ inl most ]

all-of : {A : Type 0} (P : A → Type 0) (x : A) (xs : List A) → P x → ((y : A) → Contains xs y → P y) → (y : A) → Contains (x ∷ xs) y → P y
all-of {A} P x xs p rest y there = elim (contains-cases x xs y there) [ inl e ↦ subst P e p | inr later ↦ rest y later ]

-- what is said of each member of a list
pub each_member : {A : Type 0} (P : A → Type 0) (xs : List A) → ((x : A) → Settled (P x)) → Settled ((x : A) → Contains xs x → P x)
each_member {A} P [] s = inl (λ x there. absurd (contains-none x there))
each_member {A} P (x ∷ xs) s = elim (s x) [
  | inr f ↦ inr (λ h. f (h x (contains-first x xs)))
  | inl p ↦ elim (each_member P xs s) [
    | inl rest ↦ inl (all-of P x xs p rest)
    | inr g ↦ inr (λ h. g (λ y there. h y (contains-later x xs y there)))
  ]
]

-- what is said of each number below a bound
pub each_below : (P : ℕ → Type 0) (n : ℕ) → ((i : ℕ) → Settled (P i)) → Settled ((i : ℕ) → i < n → P i)
each_below P zero s = inl (λ i low. absurd (omega arith))
each_below P (suc n) s = elim (s n) [
  | inr f ↦ inr (λ h. f (h n (omega arith)))
  | inl p ↦ elim (each_below P n s) [
    | inl rest ↦ inl (λ i low. elim (cases_lt i n) [ inl lower ↦ rest i lower | inr past ↦ let e : n ≡ i = omega arith in subst P e p ])
    | inr g ↦ inr (λ h. g (λ i low. h i (omega arith)))
  ]
]
