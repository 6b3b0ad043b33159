-- Lists of which one element more is taken.
use Rattle.std.proofs.Common.{◌≡◌, ℕ, zero, suc, ◌+◌, ◌<◌, List, [], ◌∷◌, ◌++◌, length, get_or, take, refl, sym, ap, ◌∙◌, arith}
use Rattle.std.specs.Prelude.{IsSome, Some, slice_get}
use Rattle.std.specs.List.{flat_map}
use Rattle.std.proofs.lemmas.List.{flat_map_more}
use Rattle.std.proofs.lemmas.Option.{get_or_from_slice_get}
use Rattle.general_lemmas.proofs.Splits.{up_to}

pub some_within : {A : Type 0} (xs : List A) (i : ℕ) → i < length xs → IsSome (slice_get xs i)
some_within [] i inside = absurd (omega (arith, inside))
some_within (x ∷ xs) zero inside = refl
some_within (x ∷ xs) (suc i) inside = some_within xs i (omega (arith, inside))

pub at_place : {A : Type 0} (xs : List A) (i : ℕ) (x : A) → slice_get xs i ≡ Some x → x ≡ get_or xs i x
at_place xs i x there = sym (get_or_from_slice_get xs i x x there)

-- one piece of a text more
pub piece_more : {A : Type 0} (f : A → List ℕ) (front : List ℕ) (xs : List A) (i : ℕ) (x : A) (old new : List ℕ) → i < length xs → x ≡ get_or xs i x → old ≡ front ++ flat_map f (take i xs) → new ≡ old ++ f x → new ≡ front ++ flat_map f (take (i + 1) xs)
piece_more {A} f front xs i x old new inside here so_far more =
    more ∙ ap (λ (t : List ℕ). t ++ f x) so_far ∙ flat_map_more f front (take i xs) x ∙ ap (λ (l : List A). front ++ flat_map f l) (sym (up_to xs i x inside here))
