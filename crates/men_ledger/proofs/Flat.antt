-- Lists joined, one for each of different numbers: members, differing numbers and sums.
use Rattle.std.proofs.Common.{◌≡◌, ℕ, inl, inr, List, [], ◌∷◌, refl, subst, arith}
use Rattle.std.proofs.lemmas.List.Sums.{sum_by-append, sum_by-cons}
use Rattle.std.specs.List.{flat_map, sum_by}
use Rattle.general_lemmas.proofs.Differing.{Has, Differ, has-either, differ-append}

pub has-flat : (to : ℕ → List ℕ) (hs : List ℕ) (z : ℕ) → Has (flat_map to hs) z → (h : ℕ) × Has hs h × Has (to h) z
has-flat to [] z there = elim there [ ]
has-flat to (h ∷ hs) z there = elim (has-either (to h) (flat_map to hs) z there) [
  | inl here ↦ (h, inl refl, here)
  | inr later ↦ let found = has-flat to hs z later in (found.0, inr found.1, found.2)
]

-- each list's numbers differ, and no number stands in two lists
pub differ-flat : (to : ℕ → List ℕ) (hs : List ℕ) → Differ hs → ((h : ℕ) → Differ (to h)) → ((h k z : ℕ) → Has (to h) z → Has (to k) z → h ≡ k) → Differ (flat_map to hs)
differ-flat to [] d each apart = tt
differ-flat to (h ∷ hs) d each apart = differ-append (to h) (flat_map to hs) (each h) (differ-flat to hs d.1 each apart) (λ z here later.
    let found = has-flat to hs z later in d.0 (subst (Has hs) (apart found.0 h z found.2 here) found.1))

pub sum-flat : (f : ℕ → ℕ) (to : ℕ → List ℕ) (hs : List ℕ) → sum_by f (flat_map to hs) ≡ sum_by (λ h. sum_by f (to h)) hs
sum-flat f to [] = refl
sum-flat f to (h ∷ hs) = omega (arith, sum_by-append f (to h) (flat_map to hs), sum_by-cons (λ k. sum_by f (to k)) h hs, sum-flat f to hs)
