-- Numbers that end before others do.
use Rattle.std.proofs.Common.{◌≡◌, ℕ, ◌<◌, ◌≤◌, Bool, true, false, List, [], ◌∷◌, length, drop, refl, sym, ap, ◌∙◌}
use Rattle.std.proofs.Math.Seq.{drop-cons}
use Rattle.std.proofs.lemmas.List.{drop_all}
use Rattle.proof_story.specs.Reading.{comes_before}

-- a number that ends is before one that goes on
pub before-ended : (a b : List ℕ) (i : ℕ) (o : Bool) → length a ≤ i → i < length b → comes_before (drop i a) (drop i b) ≡ o → true ≡ o
before-ended a b i o past lb so_far =
    sym (ap (λ (l : List ℕ). comes_before l (drop i b)) (drop_all i a past) ∙ ap (λ (l : List ℕ). comes_before [] l) (drop-cons b i 0 lb)) ∙ so_far

none-after : (a : List ℕ) → comes_before a [] ≡ false
none-after [] = refl
none-after (m ∷ ms) = refl

-- and not before one that ends with it, or sooner
pub before-none : (a b : List ℕ) (i : ℕ) (o : Bool) → length b ≤ i → comes_before (drop i a) (drop i b) ≡ o → false ≡ o
before-none a b i o past so_far = sym (ap (λ (l : List ℕ). comes_before (drop i a) l) (drop_all i b past) ∙ none-after (drop i a)) ∙ so_far
